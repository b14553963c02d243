use Rattle.std.proofs.Common.{◌≡◌, map}
use Rattle.std.specs.List.{range_with_len}
use Rattle.generated_run.specs.Draws.{draw, state_after}
use Rattle.generated_run.proofs.drawing.draws.Given as goal

abbrev pub invariant-loop : goal.invariant-loop
invariant-loop l = record {
  state : l.state ≡ state_after l.size l.counter;
  draws : l.draws.items ≡ map (draw l.size) (range_with_len 0 l.counter);
}
