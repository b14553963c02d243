-- The values of an edge, by direction (GraphHopper, "encoded values"). Clauses see `DirValues` as `Values` and
-- `EdgeValues` as `TwoValues`: records that carry no proof, so that a definition can write one down, as a row of
-- a table, and `≡` compares lists of edges by what they show. The facts below hold of every value of the program;
-- a proof learns them where it reads a field.
use Rattle.std.specs.Prelude.{ℕ, ◌*◌, ◌<◌, ◌≤◌, ◌≡◌, max, Bool, nat_lt}
use Rattle.gh_base.specs.declared.query.Vehicle.{Vehicle}
use Rattle.gh_base.specs.declared.query.Vehicle.TheVariants.{Car, Bike, Foot}

-- the values of one direction
pub record Values : Type 0 where
  pub road_class : ℕ
  pub road_class_link : Bool
  pub roundabout : Bool
  pub surface : ℕ
  pub toll : ℕ
  pub lanes : ℕ
  pub max_speed : ℕ
  pub car_access : Bool
  pub bike_access : Bool
  pub foot_access : Bool
  pub car_speed : ℕ
  pub bike_speed : ℕ
  pub foot_speed : ℕ

-- the values of both
pub record TwoValues : Type 0 where
  pub forward : Values
  pub reverse : Values

-- each value is one of its kind, speeds fit a byte, and a vehicle has access where its speed is above 0
pub record AreInRange (values : Values) : Type 0 where
  pub road_class : values.road_class < 16
  pub surface : values.surface < 14
  pub toll : values.toll < 3
  pub some_lane : 1 ≤ values.lanes
  pub few_lanes : values.lanes ≤ 7
  pub max_speed : 1 ≤ values.max_speed
  pub max_byte : values.max_speed ≤ 255
  pub car_byte : values.car_speed ≤ 255
  pub bike_byte : values.bike_speed ≤ 255
  pub foot_byte : values.foot_speed ≤ 255
  pub car : values.car_access ≡ nat_lt 0 values.car_speed
  pub bike : values.bike_access ≡ nat_lt 0 values.bike_speed
  pub foot : values.foot_access ≡ nat_lt 0 values.foot_speed

-- what doesn't depend on the direction is the same in both
pub record AreAlike (a b : Values) : Type 0 where
  pub road_class : a.road_class ≡ b.road_class
  pub road_class_link : a.road_class_link ≡ b.road_class_link
  pub roundabout : a.roundabout ≡ b.roundabout
  pub surface : a.surface ≡ b.surface
  pub toll : a.toll ≡ b.toll
  pub lanes : a.lanes ≡ b.lanes
  pub max_speed : a.max_speed ≡ b.max_speed

-- both directions are in their ranges, and alike where no direction counts
pub record AreTwoInRange (values : TwoValues) : Type 0 where
  pub forward : AreInRange values.forward
  pub reverse : AreInRange values.reverse
  pub alike : AreAlike values.forward values.reverse

-- the base speed of a vehicle, in km/h
abbrev pub speed_of : Vehicle → Values → ℕ
speed_of Car values = values.car_speed
speed_of Bike values = values.bike_speed
speed_of Foot values = values.foot_speed

-- the traffic limit that a direction opens with, in milli-km/h: that of its fastest vehicle, 0 where none may pass
abbrev pub opening : Values → ℕ
opening values = 1000 * max values.car_speed (max values.bike_speed values.foot_speed)
