use Rattle.std.proofs.Common.{ap, arith, ◌∙◌}
use Rattle.std.proofs.lemmas.Grind.{common_steps}
use Rattle.traffic_share.proofs.ListsThatBegin.{take_more}
use Rattle.traffic_share.proofs.seat.Seat.learn.Goals as goal

pub loop-preserved : goal.loop-preserved
loop-preserved g c = record {
  same = grind (arith, common_steps);
  other = c.copy_next.ensures.other ∙ c.loop.invariant.other;
  front = take_more _ _ _ _ _ c.loop.invariant.front c.copy_next.ensures.next (grind arith) (ap (λ p. p.entries) c.copy_next.ensures.other);
}
