use Rattle.std.proofs.Common.{◌≡◌, ◌<◌, ℕ, length, arith, subst}
use Rattle.std.proofs.lemmas.List.Elements.{All-nil}
use Rattle.script_service.specs.declared.actor.Heard.{Heard}
use Rattle.script_service.specs.Actors.{HasRunFirst}
use Rattle.script_service.proofs.ActsMore.{runs_none, runs_more, still_self, still_more}
use Rattle.script_service.proofs.SeatNumbers.{awaited}
use Rattle.script_service.proofs.actor.Actor.answer_all.Goals as goal

pub loop-place-init : goal.loop-place-init
loop-place-init g c = record {
  still = still_self c.args.phase.now c.args.self.now (rw c.requires.empty (All-nil (λ (h : Heard). h.place < length c.args.phase.now)));
  first = runs_none g.J.Naming.land c.args.phase.now c.args.self.now c.requires.empty;
}

pub pass-requires-clause-more : goal.pass-requires-clause-more
pass-requires-clause-more g c κs within =
    let inv = c.loop-place.invariant in
    awaited c.args.phase.now c.loop-place.place _ c.args.self.now c.loop-place.self c.loop-place-test.true inv.first.stays inv.still.actor c.requires.awaits c.requires.asked.grow

pub loop-place-preserved : goal.loop-place-preserved
loop-place-preserved g c =
    let inv = c.loop-place.invariant in
    record {
      still = still_more c.args.phase.now c.args.self.now c.loop-place.self c.pass.new.self inv.still c.pass.ensures.still;
      first = runs_more g.J.Naming.land c.args.phase.now c.loop-place.place c.args.self.now c.loop-place.self c.pass.new.self c.loop-place-test.true inv.still inv.first c.in_ok-pass.ensures.passed;
    }

pub returns-in_err-pass-clause-still : goal.returns-in_err-pass-clause-still
returns-in_err-pass-clause-still g c = still_more c.args.phase.now c.args.self.now c.loop-place.self c.pass.new.self c.loop-place.invariant.still c.pass.ensures.still

pub returns-clause-whole : goal.returns-clause-whole
returns-clause-whole g c =
    let last : c.loop-place.place ≡ length c.args.phase.now = omega arith in
    subst (λ (n : ℕ). HasRunFirst g.J.Naming.land c.args.phase.now n c.args.self.now c.loop-place.self) last c.loop-place.invariant.first
