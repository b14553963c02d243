-- Actions, by texts and what they are (GraphHopper documentation, "Custom models", operators).
use Rattle.std.specs.Prelude.{◌≡◌, ℕ, List, [], ◌∷◌, Ok, Err, Result, map, codes}
use Rattle.gh_base.specs.declared.kinds.ModelKind.{ModelKind}
use Rattle.gh_base.specs.declared.kinds.ModelKind.TheVariants.{Name, Number}
use Rattle.model_eval.specs.declared.conditions.NumberName.TheVariants as number
use Rattle.model_eval.specs.declared.custom_model.Action.{Action}
use Rattle.model_eval.specs.declared.custom_model.Action.TheVariants as action
use Rattle.model_eval.specs.declared.custom_model.Running.{Running}
use Rattle.model_eval.specs.declared.custom_model.Running.TheVariants.{Speed, Priority}
use Rattle.model_texts.specs.declared.amounts.Verb.{Verb}
use Rattle.model_texts.specs.declared.amounts.Verb.TheVariants.{Multiply, Limit}
use Rattle.model_texts.specs.Actions.{action_of}

-- a text of an action, and what it does: factors in millionths, limits of speed in milli-km/h
pub record Sample : Type 0 where
  pub verb : Verb
  pub running : Running
  pub text : List ℕ
  pub is : Result Action (ℕ × ModelKind)

abbrev pub samples : List Sample
samples =
    record { verb = Multiply; running = Speed; text = codes "0.5"; is = Ok (action.Multiply 500000) } ∷
    record { verb = Multiply; running = Priority; text = codes "10"; is = Ok (action.Multiply 10000000) } ∷
    record { verb = Limit; running = Speed; text = codes "30.5"; is = Ok (action.Limit 30500) } ∷
    record { verb = Limit; running = Priority; text = codes "2"; is = Ok (action.Limit 2000000) } ∷
    record { verb = Multiply; running = Speed; text = codes "lanes"; is = Ok (action.MultiplyScaled number.Lanes 1000000) } ∷
    record { verb = Limit; running = Speed; text = codes "max_speed * 0.9"; is = Ok (action.LimitScaled number.MaxSpeed 900000) } ∷
    record { verb = Limit; running = Speed; text = codes "0.9*car_speed"; is = Ok (action.LimitScaled number.CarSpeed 900000) } ∷
    record { verb = Limit; running = Speed; text = codes "bike_speed"; is = Ok (action.LimitScaled number.BikeSpeed 1000000) } ∷
    record { verb = Multiply; running = Priority; text = codes " 2 * foot_speed "; is = Ok (action.MultiplyScaled number.FootSpeed 2000000) } ∷
    record { verb = Multiply; running = Speed; text = codes "10.000001"; is = Err (0, Number) } ∷
    record { verb = Multiply; running = Speed; text = codes "1."; is = Err (2, Number) } ∷
    record { verb = Multiply; running = Speed; text = codes "-1"; is = Err (0, Number) } ∷
    record { verb = Limit; running = Speed; text = codes "1000.001"; is = Err (0, Number) } ∷
    record { verb = Limit; running = Speed; text = codes "1.2345"; is = Err (5, Number) } ∷
    record { verb = Multiply; running = Speed; text = codes "lane * 2"; is = Err (0, Name) } ∷
    record { verb = Multiply; running = Speed; text = codes "2 * toll"; is = Err (4, Name) } ∷
    record { verb = Multiply; running = Speed; text = codes "lanes 2"; is = Err (6, Number) } ∷
    record { verb = Multiply; running = Speed; text = codes "lanes * 11"; is = Err (8, Number) } ∷
    record { verb = Multiply; running = Speed; text = codes "lanes *"; is = Err (7, Number) } ∷ []

abbrev pub ActionsAreSo : Type 0
ActionsAreSo = map (λ (s : Sample). action_of s.verb s.running s.text) samples ≡ map (λ (s : Sample). s.is) samples
