use Rattle.std.proofs.Common.{subst}
use Rattle.model_eval.specs.declared.custom_model.CustomModel.{CustomModel}
use Rattle.model_eval.specs.Slowing.{IsSlow}
use Rattle.weighting.proofs.Falls.{only_slows}
use Rattle.traffic_core.proofs.query.model_slows.Goals as goal

pub returns : goal.returns
returns c =
    only_slows c.args.profile.now.model c.args.model.now
    (subst (λ (model : CustomModel). IsSlow model) c.model.ensures.same c.model.ensures.slow) c.requires
