use Rattle.std.proofs.Common.{◌≡◌, drop}
use Rattle.model_eval.specs.Regions as spec
use Rattle.model_eval.proofs.Crossings.{sight_after}
use Rattle.model_eval.proofs.region.crosses_oddly.Given as goal

abbrev pub invariant-loop-stop : goal.invariant-loop-stop
invariant-loop-stop l =
    sight_after l.odd l.point (spec.segments_from l.start (drop l.stop-index l.rest)) ≡ spec.sight l.point (spec.segments l.ring)
