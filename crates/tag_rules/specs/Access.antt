-- Who may pass, and in which direction (OSM wiki, "Key:access", "Key:oneway").
use Rattle.std.specs.Prelude.{ℕ, ◌+◌, Bool, true, false, ◌||◌, ◌&&◌, not, if◌then◌else◌, List, [], ◌∷◌, Option, None, codes, is_some}
use Rattle.std.specs.Option.{option_or}
use Rattle.gh_base.specs.declared.map.OsmTag.{OsmTag}
use Rattle.gh_base.specs.declared.query.Vehicle.{Vehicle}
use Rattle.gh_base.specs.declared.query.Vehicle.TheVariants.{Car, Bike, Foot}
use Rattle.tag_rules.specs.Tags.{tag_of, is_word}

-- the keys that decide on the access of a vehicle: the first there is
abbrev pub access_keys : Vehicle → List (List ℕ)
access_keys Car = codes "motorcar" ∷ codes "motor_vehicle" ∷ codes "vehicle" ∷ codes "access" ∷ []
access_keys Bike = codes "bicycle" ∷ codes "vehicle" ∷ codes "access" ∷ []
access_keys Foot = codes "foot" ∷ codes "access" ∷ []

-- the value of the first of these keys that there is
abbrev pub first_of : List (List ℕ) → List OsmTag → Option (List ℕ)
first_of [] tags = None
first_of (key ∷ keys) tags = option_or (tag_of key tags) (first_of keys tags)

-- the values `no` and `private` forbid
abbrev pub forbids : Option (List ℕ) → Bool
forbids value = is_word value (codes "no") || is_word value (codes "private")

abbrev pub is_roundabout_by : List OsmTag → Bool
is_roundabout_by tags = is_word (tag_of (codes "junction") tags) (codes "roundabout")

-- a motorway, its link and a roundabout are one-way where no tag says otherwise
abbrev pub is_implied_by : List OsmTag → Bool
is_implied_by tags =
    is_word (tag_of (codes "highway") tags) (codes "motorway")
    || is_word (tag_of (codes "highway") tags) (codes "motorway_link") || is_roundabout_by tags

-- whether a value of `oneway` bars the forward direction
abbrev pub bars_forward : Option (List ℕ) → Bool
bars_forward value = is_word value (codes "-1") || is_word value (codes "reverse")

-- whether it bars the reverse
abbrev pub bars_reverse : Option (List ℕ) → Bool
bars_reverse value = is_word value (codes "yes") || is_word value (codes "true") || is_word value (codes "1")

-- whether a way is closed in a direction, here whether the reverse, for those that keep to it
abbrev pub is_closed_by : Bool → List OsmTag → Bool
is_closed_by false tags = bars_forward (tag_of (codes "oneway") tags)
is_closed_by true tags =
    bars_reverse (tag_of (codes "oneway") tags) || (not (is_some (tag_of (codes "oneway") tags)) && is_implied_by tags)

-- whether the direction of the way bars a vehicle: walkers never, bikes not where `oneway:bicycle=no`
abbrev pub is_against_by : Vehicle → Bool → List OsmTag → Bool
is_against_by Car reverse tags = is_closed_by reverse tags
is_against_by Bike reverse tags = is_closed_by reverse tags && not (is_word (tag_of (codes "oneway:bicycle") tags) (codes "no"))
is_against_by Foot reverse tags = false

-- whether the tags bar a vehicle in a direction
abbrev pub bars : Vehicle → Bool → List OsmTag → Bool
bars vehicle reverse tags = is_against_by vehicle reverse tags || forbids (first_of (access_keys vehicle) tags)

-- the bits of a set of vehicles: cars 1, bikes 2, walkers 4
abbrev pub set_of : Bool → Bool → Bool → ℕ
set_of car bike foot = (if car then 1 else 0) + (if bike then 2 else 0) + (if foot then 4 else 0)

-- whether a vehicle is in such a set
abbrev pub is_in : Vehicle → Bool → Bool → Bool → Bool
is_in Car car bike foot = car
is_in Bike car bike foot = bike
is_in Foot car bike foot = foot

-- the set of one vehicle
abbrev pub flag_of : Vehicle → ℕ
flag_of Car = 1
flag_of Bike = 2
flag_of Foot = 4

-- the set with a vehicle more, if it is barred
abbrev pub set_with : Vehicle → Bool → Bool → Bool → Bool → ℕ
set_with Car barred car bike foot = set_of (car || barred) bike foot
set_with Bike barred car bike foot = set_of car (bike || barred) foot
set_with Foot barred car bike foot = set_of car bike (foot || barred)
