use Rattle.std.proofs.Common.{◌≡◌, drop}
use Rattle.model_eval.specs.Regions as spec
use Rattle.model_eval.proofs.Crossings.{inside_after}
use Rattle.model_eval.proofs.region.inside.Given as goal

abbrev pub invariant-loop-ring : goal.invariant-loop-ring
invariant-loop-ring l =
    inside_after l.odd l.point (drop l.ring-index l.area.rings) ≡ spec.is_inside l.area.rings l.point
