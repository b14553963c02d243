use Rattle.std.proofs.Common.{◌≡◌, take}
use Rattle.std.specs.Ordering.{int_eq}
use Rattle.std.specs.HashMap.{get}
use Rattle.map_import.specs.Roads.{points_along}
use Rattle.map_import.proofs.lines.points_of.Given as goal

abbrev pub invariant-loop-id : goal.invariant-loop-id
invariant-loop-id l = l.points.items ≡ points_along (get int_eq l.places) (take l.id-index l.refs)
