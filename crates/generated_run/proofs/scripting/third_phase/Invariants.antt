use Rattle.std.proofs.Common.{◌≡◌, map}
use Rattle.std.specs.List.{range_with_len}
use Rattle.generated_run.specs.Scripts.{route_at}
use Rattle.generated_run.proofs.scripting.third_phase.Given as goal

abbrev pub invariant-loop-k : goal.invariant-loop-k
invariant-loop-k l = l.phase ≡ map (route_at l.size) (range_with_len 0 l.k)
