use Rattle.std.specs.Ordering.{int_eq}
use Rattle.std.specs.HashMap.{get}
use Rattle.std.proofs.Common.{◌≡◌, take}
use Rattle.traffic_core.specs.Lands.{IsIndexOf}
use Rattle.traffic_core.proofs.towers.numbers_of.Given as goal

abbrev pub invariant-loop-id : goal.invariant-loop-id
invariant-loop-id l = (l.number ≡ l.id-index) × IsIndexOf (take l.id-index l.ids) (get int_eq l.numbers)
