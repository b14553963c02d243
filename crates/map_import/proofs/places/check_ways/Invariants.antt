use Rattle.std.proofs.Common.{◌≡◌, drop}
use Rattle.std.specs.Ordering.{int_eq}
use Rattle.std.specs.HashMap.{get}
use Rattle.map_import.specs.Refusals.{first_missing}
use Rattle.map_import.proofs.places.check_ways.Given as goal

abbrev pub invariant-loop-way : goal.invariant-loop-way
invariant-loop-way l = first_missing (get int_eq l.places) (drop l.way-index l.ways) ≡ first_missing (get int_eq l.places) l.ways
