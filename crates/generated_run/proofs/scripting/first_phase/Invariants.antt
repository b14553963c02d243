use Rattle.std.proofs.Common.{◌≡◌, ◌∷◌, map}
use Rattle.std.specs.List.{range_with_len}
use Rattle.generated_run.specs.Scripts.{lowering_at, preparing}
use Rattle.generated_run.proofs.scripting.first_phase.Given as goal

abbrev pub invariant-loop-k : goal.invariant-loop-k
invariant-loop-k l = l.phase ≡ preparing ∷ map (lowering_at l.size l.edges) (range_with_len 0 l.k)
