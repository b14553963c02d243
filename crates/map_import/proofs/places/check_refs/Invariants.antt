use Rattle.std.proofs.Common.{◌≡◌, drop}
use Rattle.std.specs.Ordering.{int_eq}
use Rattle.std.specs.HashMap.{get}
use Rattle.map_import.specs.Refusals.{missing_of}
use Rattle.map_import.proofs.places.check_refs.Given as goal

abbrev pub invariant-loop-id : goal.invariant-loop-id
invariant-loop-id l = missing_of (get int_eq l.places) (drop l.id-index l.refs) ≡ missing_of (get int_eq l.places) l.refs
