use Rattle.std.proofs.Common.{◌≡◌, ℤ, take, Some, true, cond}
use Rattle.std.specs.Ordering.{int_eq}
use Rattle.std.specs.List.{list_any}
use Rattle.std.specs.HashMap.{get}
use Rattle.map_import.specs.Roads.{times, is_end_of}
use Rattle.map_import.specs.Building.{mark}
use Rattle.map_import.proofs.towers.towers_of.Given as goal

abbrev pub invariant-counts : goal.invariant-counts
invariant-counts l = (id : ℤ) → get int_eq l.marks id ≡ mark (times (take l.way-index l.ways) id)

abbrev pub invariant-ends : goal.invariant-ends
invariant-ends l =
    (id : ℤ) → get int_eq l.marks id ≡ cond (list_any (is_end_of id) (take l.way-index l.ways)) (Some true) (mark (times l.ways id))
