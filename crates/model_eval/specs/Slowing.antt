-- Models that only slow (GraphHopper documentation, "Landmarks": a request may only slow a profile; the exact rule is
-- this project's own): no factor is above 1, whatever is stored.
use Rattle.std.specs.Prelude.{ℕ, ◌+◌, ◌*◌, ◌≤◌, Bool, true, nat_le, nat_lt, IsTrue, List, [], ◌∷◌, Option, Some, None, unwrap_or, if◌then◌else◌}
use Rattle.std.specs.List.{list_all}
use Rattle.encoded_values.specs.Values.{Values}
use Rattle.gh_base.specs.declared.kinds.Part.{Part}
use Rattle.gh_base.specs.declared.kinds.Part.TheVariants.{Speed, Priority, Influence}
use Rattle.model_eval.specs.declared.conditions.NumberName.{NumberName}
use Rattle.model_eval.specs.declared.conditions.NumberName.TheVariants.{Lanes, MaxSpeed, CarSpeed, BikeSpeed, FootSpeed}
use Rattle.model_eval.specs.declared.custom_model.Action.{Action}
use Rattle.model_eval.specs.declared.custom_model.Action.TheVariants.{Multiply, Limit, MultiplyScaled, LimitScaled}
use Rattle.model_eval.specs.declared.custom_model.Statement.{Statement}
use Rattle.model_eval.specs.declared.custom_model.CustomModel.{CustomModel}

-- the greatest number that can be stored and isn't missing
abbrev pub greatest : NumberName → ℕ
greatest Lanes = 7
greatest MaxSpeed = 254
greatest CarSpeed = 255
greatest BikeSpeed = 255
greatest FootSpeed = 255

-- numbers as they can be stored; a missing maximum speed is 255
pub record AreStored (values : Values) : Type 0 where
  pub lanes : values.lanes ≤ 7
  pub max_speed : values.max_speed ≤ 255
  pub car : values.car_speed ≤ 255
  pub bike : values.bike_speed ≤ 255
  pub foot : values.foot_speed ≤ 255

-- the greatest factor of an action in millionths; a limit has none
abbrev pub factor_of : Action → Option ℕ
factor_of (Multiply c) = Some c
factor_of (Limit l) = None
factor_of (MultiplyScaled name by) = Some (greatest name * by)
factor_of (LimitScaled name by) = None

abbrev pub is_at_most_one : Option ℕ → Bool
is_at_most_one None = true
is_at_most_one (Some c) = nat_le c 1000000

abbrev pub is_slowing : Statement → Bool
is_slowing s = is_at_most_one (factor_of s.action)

abbrev pub are_slowing : List Statement → Bool
are_slowing ss = list_all is_slowing ss

pub record IsSlow (model : CustomModel) : Type 0 where
  pub speed : IsTrue (are_slowing model.speed)
  pub priority : IsTrue (are_slowing model.priority)

-- where a model doesn't slow: a part, an item counted from 1, and its value
pub record Offence : Type 0 where
  pub part : Part
  pub item : ℕ
  pub value : ℕ

abbrev pub first_of : Option Offence → Option Offence → Option Offence
first_of None later = later
first_of (Some offence) later = Some offence

-- a factor above 1
abbrev pub offence_of : Part → ℕ → Option ℕ → Option Offence
offence_of part item None = None
offence_of part item (Some c) = if nat_lt 1000000 c then Some (record { part = part; item = item; value = c }) else None

-- the first factor above 1 of statements that are counted from a number
abbrev pub offender_among : Part → ℕ → List Statement → Option Offence
offender_among part item [] = None
offender_among part item (s ∷ ss) = first_of (offence_of part item (factor_of s.action)) (offender_among part (item + 1) ss)

-- a query's influence of distance below the profile's, which is 0 where it has none
abbrev pub low_influence : Option ℕ → Option ℕ → Option Offence
low_influence profile None = None
low_influence profile (Some d) = if nat_lt d (unwrap_or profile 0) then Some (record { part = Influence; item = 0; value = d }) else None

-- the first item of a query model that doesn't slow the profile
unfoldable pub offender : CustomModel → CustomModel → Option Offence
offender profile query =
    first_of (offender_among Speed 1 query.speed)
    (first_of (offender_among Priority 1 query.priority) (low_influence profile.distance_influence query.distance_influence))
