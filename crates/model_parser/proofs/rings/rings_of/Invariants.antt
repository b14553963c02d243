use Rattle.std.proofs.Common.{◌≡◌, [], drop}
use Rattle.model_parser.specs.Rings as spec
use Rattle.model_parser.proofs.rings.rings_of.Given as goal

abbrev pub invariant-loop-polygon : goal.invariant-loop-polygon
invariant-loop-polygon l = spec.rings_from l.item l.found (drop l.polygon-index l.polygons) ≡ spec.rings_from l.item [] l.polygons
