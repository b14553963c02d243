-- What gives roads their weights: a vehicle, a profile's model, and maybe a query's (GraphHopper documentation, "Custom
-- models").
use Rattle.std.specs.Prelude.{Option, None}
use Rattle.gh_base.specs.declared.query.Vehicle.{Vehicle}
use Rattle.model_eval.specs.declared.custom_model.CustomModel.{CustomModel}
use Rattle.weighting.specs.declared.profile.Profile.{Profile}

pub record Rule : Type 0 where
  pub vehicle : Vehicle
  pub profile : CustomModel
  pub query : Option CustomModel

abbrev pub rule_of : Profile → Option CustomModel → Rule
rule_of profile query = record { vehicle = profile.vehicle; profile = profile.model; query = query }

-- a profile without a query
abbrev pub alone : Rule → Rule
alone rule = record { vehicle = rule.vehicle; profile = rule.profile; query = None }
