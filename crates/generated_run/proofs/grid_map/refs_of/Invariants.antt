use Rattle.std.proofs.Common.{◌≡◌, map}
use Rattle.std.specs.List.{range_with_len}
use Rattle.generated_run.specs.Maps.{ref_at}
use Rattle.generated_run.proofs.grid_map.refs_of.Given as goal

abbrev pub invariant-loop-k : goal.invariant-loop-k
invariant-loop-k l = l.refs ≡ map (ref_at l.size l.n) (range_with_len 0 l.k)
