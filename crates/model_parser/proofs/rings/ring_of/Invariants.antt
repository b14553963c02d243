use Rattle.std.proofs.Common.{◌≡◌, [], drop}
use Rattle.model_parser.specs.Faults.{each}
use Rattle.model_parser.specs.Values.{items}
use Rattle.model_parser.specs.Rings as spec
use Rattle.model_parser.proofs.rings.ring_of.Given as goal

abbrev pub invariant-loop-position : goal.invariant-loop-position
invariant-loop-position l = each (spec.position_of l.item) l.points (drop l.position-index (items l.ring)) ≡ each (spec.position_of l.item) [] (items l.ring)
