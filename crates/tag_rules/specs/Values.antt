-- The values of a way by its tags, whole.
use Rattle.std.specs.Prelude.{ℕ, ◌*◌, ◌/◌, max, Bool, false, true, ◌||◌, nat_lt, ◌<◌, ◌==◌, if◌then◌else◌, List, Option, Some, None, codes}
use Rattle.gh_base.specs.declared.map.OsmTag.{OsmTag}
use Rattle.gh_base.specs.declared.query.Vehicle.{Vehicle}
use Rattle.gh_base.specs.declared.query.Vehicle.TheVariants.{Car, Bike, Foot}
use Rattle.encoded_values.specs.Values.{Values, TwoValues}
use Rattle.tag_rules.specs.declared.highways.Highway.{Highway}
use Rattle.tag_rules.specs.Access.{bars, is_roundabout_by}
use Rattle.tag_rules.specs.Tables.{highway_of, max_speed_by, lanes_by, surface_by, toll_by}
use Rattle.tag_rules.specs.Tags.{tag_of}

-- nine tenths of the maximum speed, where there is one and cars may pass, else the table's
abbrev pub car_speed_of : ℕ → ℕ → ℕ
car_speed_of car max_speed = if car == 0 || max_speed == 255 then car else max 1 (9 * max_speed / 10)

-- the speed of a vehicle that may pass
abbrev pub free_speed : Vehicle → Highway → List OsmTag → ℕ
free_speed Car highway tags = car_speed_of highway.car (max_speed_by (tag_of (codes "maxspeed") tags))
free_speed Bike highway tags = highway.bike
free_speed Foot highway tags = highway.foot

-- the speed of a vehicle in a direction, here whether the reverse
abbrev pub speed_by : Vehicle → Bool → Highway → List OsmTag → ℕ
speed_by vehicle reverse highway tags = if bars vehicle reverse tags then 0 else free_speed vehicle highway tags

-- the values of a direction
abbrev pub values_in : Bool → Highway → List OsmTag → Values
values_in reverse highway tags = record {
  road_class = highway.class;
  road_class_link = highway.link;
  roundabout = is_roundabout_by tags;
  surface = surface_by (tag_of (codes "surface") tags);
  toll = toll_by (tag_of (codes "toll") tags);
  lanes = lanes_by (tag_of (codes "lanes") tags);
  max_speed = max_speed_by (tag_of (codes "maxspeed") tags);
  car_access = nat_lt 0 (speed_by Car reverse highway tags);
  bike_access = nat_lt 0 (speed_by Bike reverse highway tags);
  foot_access = nat_lt 0 (speed_by Foot reverse highway tags);
  car_speed = speed_by Car reverse highway tags;
  bike_speed = speed_by Bike reverse highway tags;
  foot_speed = speed_by Foot reverse highway tags;
}

-- whether some vehicle may pass
abbrev pub has_access : Values → Bool
has_access values = values.car_access || values.bike_access || values.foot_access

-- values of a way that some vehicle may use in some direction
abbrev pub where_used : TwoValues → Option TwoValues
where_used values = if has_access values.forward || has_access values.reverse then Some values else None

-- the values by a row of the table
abbrev pub values_on : Option Highway → List OsmTag → Option TwoValues
values_on None tags = None
values_on (Some highway) tags = where_used (record { forward = values_in false highway tags; reverse = values_in true highway tags })

-- the row of a value of `highway`
abbrev pub row_of : Option (List ℕ) → Option Highway
row_of None = None
row_of (Some word) = highway_of word

-- the values of a way by its tags; None where no vehicle may use it
abbrev pub values_by : List OsmTag → Option TwoValues
values_by tags = values_on (row_of (tag_of (codes "highway") tags)) tags

-- the speed of a vehicle on a way of this row, 0 where there is no row
abbrev pub speed_on : Option Highway → Vehicle → Bool → List OsmTag → ℕ
speed_on None vehicle reverse tags = 0
speed_on (Some highway) vehicle reverse tags = speed_by vehicle reverse highway tags

-- some vehicle has a speed above 0 in some direction
pub record SomeMoves (highway : Option Highway) (tags : List OsmTag) : Type 0 where
  pub vehicle : Vehicle
  pub reverse : Bool
  pub moves : 0 < speed_on highway vehicle reverse tags

-- it does on a way with these tags
abbrev pub IsUsed : List OsmTag → Type 0
IsUsed tags = SomeMoves (row_of (tag_of (codes "highway") tags)) tags
