use Rattle.std.proofs.Common.{◌≡◌, map}
use Rattle.std.specs.List.{range_with_len}
use Rattle.generated_run.specs.Maps.{way_at}
use Rattle.generated_run.proofs.grid_map.ways.Given as goal

abbrev pub invariant-loop-n : goal.invariant-loop-n
invariant-loop-n l = l.ways ≡ map (way_at l.size) (range_with_len 0 l.n)
