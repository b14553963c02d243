use Rattle.std.proofs.Common.{◌≡◌, drop}
use Rattle.model_parser.specs.Faults.{each}
use Rattle.model_parser.specs.Values.{items}
use Rattle.model_parser.specs.Rings as spec
use Rattle.model_parser.proofs.rings.polygon_rings.Given as goal

abbrev pub invariant-loop-ring : goal.invariant-loop-ring
invariant-loop-ring l = each (spec.ring_of l.item) l.found (drop l.ring-index (items l.polygon)) ≡ spec.polygon_rings l.item l.initial.found l.polygon
