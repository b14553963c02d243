use Rattle.std.proofs.Common.{◌≡◌, drop}
use Rattle.std.specs.List.{list_any}
use Rattle.model_eval.specs.Regions as spec
use Rattle.model_eval.proofs.region.touches.Given as goal

abbrev pub invariant-loop-index : goal.invariant-loop-index
invariant-loop-index l = list_any (spec.is_inside l.area.rings) (drop l.index l.shape) ≡ spec.touches l.shape l.area
