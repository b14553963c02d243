use Rattle.std.proofs.Common.{◌∙◌, sym}
use Rattle.model_eval.specs.Regions as spec
use Rattle.model_eval.proofs.Crossings.{found_at, passed_at}
use Rattle.model_eval.proofs.region.touches.Goals as goal

pub returns-then-inside : goal.returns-then-inside
returns-then-inside c =
    found_at (spec.is_inside c.args.area.now.rings) c.args.shape.now c.loop-index.index c.get.result (spec.touches c.args.shape.now c.args.area.now) c.get.ensures c.loop-index.invariant (sym c.inside.ensures ∙ c.if-inside.true)

pub loop-index-preserved : goal.loop-index-preserved
loop-index-preserved c =
    passed_at (spec.is_inside c.args.area.now.rings) c.args.shape.now c.loop-index.index c.get.result (spec.touches c.args.shape.now c.args.area.now) c.get.ensures c.loop-index.invariant (sym c.inside.ensures ∙ c.if-inside.false)
