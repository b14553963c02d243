-- The values of a road by their plan (GraphHopper, "encoded values").
use Rattle.std.specs.Prelude.{◌≡◌, ℕ, Bool, true, false, List, [], ◌∷◌}
use Rattle.std.specs.Int.{from_bool}
use Rattle.encoded_values.specs.Values.{Values, AreInRange}
use Rattle.value_plan.specs.Slots.{Place, value_of}

-- a value that both directions share, and one that each direction has
abbrev pub shared : ℕ → ℕ → Place
shared first bits = record { first = first; bits = bits; directed = false }

abbrev pub for_each : ℕ → ℕ → Place
for_each first bits = record { first = first; bits = bits; directed = true }

-- the slots, in the order of the plan: class, link, roundabout, surface, toll, lanes, greatest speed; access
-- and speed, each by car, by bike and on foot
abbrev pub road_slots : List Place
road_slots =
    shared 0 4 ∷ shared 4 1 ∷ shared 5 1 ∷ shared 6 4 ∷ shared 10 2 ∷ shared 12 3 ∷ shared 15 8 ∷
    for_each 23 1 ∷ for_each 25 1 ∷ for_each 27 1 ∷ for_each 29 8 ∷ for_each 45 8 ∷ for_each 61 8 ∷ []

-- the number that an edge's words are holds these values in a direction: a flag is 1 where it is set
pub record HoldsAlong (number : ℕ) (values : Values) (reverse : Bool) : Type 0 where
  pub road_class : value_of number (shared 0 4) reverse ≡ values.road_class
  pub road_class_link : value_of number (shared 4 1) reverse ≡ from_bool values.road_class_link
  pub roundabout : value_of number (shared 5 1) reverse ≡ from_bool values.roundabout
  pub surface : value_of number (shared 6 4) reverse ≡ values.surface
  pub toll : value_of number (shared 10 2) reverse ≡ values.toll
  pub lanes : value_of number (shared 12 3) reverse ≡ values.lanes
  pub max_speed : value_of number (shared 15 8) reverse ≡ values.max_speed
  pub car_access : value_of number (for_each 23 1) reverse ≡ from_bool values.car_access
  pub bike_access : value_of number (for_each 25 1) reverse ≡ from_bool values.bike_access
  pub foot_access : value_of number (for_each 27 1) reverse ≡ from_bool values.foot_access
  pub car_speed : value_of number (for_each 29 8) reverse ≡ values.car_speed
  pub bike_speed : value_of number (for_each 45 8) reverse ≡ values.bike_speed
  pub foot_speed : value_of number (for_each 61 8) reverse ≡ values.foot_speed

-- it holds values of some road in that direction
abbrev pub HoldsSome : ℕ → Bool → Type 0
HoldsSome number reverse = (values : Values) × AreInRange values × HoldsAlong number values reverse
