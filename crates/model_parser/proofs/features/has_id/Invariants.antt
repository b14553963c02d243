use Rattle.std.proofs.Common.{◌≡◌, drop}
use Rattle.model_parser.specs.Features as spec
use Rattle.model_parser.proofs.features.has_id.Given as goal

abbrev pub invariant-loop-area : goal.invariant-loop-area
invariant-loop-area l = spec.has_id (drop l.area-index l.areas) l.id ≡ spec.has_id l.areas l.id
