-- What a condition says of a directed edge (GraphHopper documentation, "Custom models", conditions): of the values
-- of the direction of travel, and of the areas in which the edge lies.
use Rattle.std.specs.Prelude.{ℕ, ◌*◌, ◌/◌, ◌%◌, ◌^◌, Bool, true, false, ◌&&◌, ◌||◌, not, ◌==◌, nat_lt, nat_le, List, [], ◌∷◌, if◌then◌else◌}
use Rattle.encoded_values.specs.Values.{Values}
use Rattle.model_eval.specs.declared.conditions.FlagName.{FlagName}
use Rattle.model_eval.specs.declared.conditions.FlagName.TheVariants.{RoadClassLink, Roundabout, CarAccess, BikeAccess, FootAccess}
use Rattle.model_eval.specs.declared.conditions.WordName.{WordName}
use Rattle.model_eval.specs.declared.conditions.WordName.TheVariants.{RoadClass, Surface, Toll}
use Rattle.model_eval.specs.declared.conditions.NumberName.{NumberName}
use Rattle.model_eval.specs.declared.conditions.NumberName.TheVariants.{Lanes, MaxSpeed, CarSpeed, BikeSpeed, FootSpeed}
use Rattle.model_eval.specs.declared.conditions.Op.{Op}
use Rattle.model_eval.specs.declared.conditions.Op.TheVariants as op
use Rattle.model_eval.specs.declared.conditions.Test.{Test}
use Rattle.model_eval.specs.declared.conditions.Test.TheOpen.{Test-F}
use Rattle.model_eval.specs.declared.conditions.Test.TheFolds.{fold-Test}

-- a stored truth value
abbrev pub flag_of : FlagName → Values → Bool
flag_of RoadClassLink values = values.road_class_link
flag_of Roundabout values = values.roundabout
flag_of CarAccess values = values.car_access
flag_of BikeAccess values = values.bike_access
flag_of FootAccess values = values.foot_access

-- a stored word, by its place
abbrev pub word_of : WordName → Values → ℕ
word_of RoadClass values = values.road_class
word_of Surface values = values.surface
word_of Toll values = values.toll

-- a stored number: lanes, or km/h
abbrev pub number_of : NumberName → Values → ℕ
number_of Lanes values = values.lanes
number_of MaxSpeed values = values.max_speed
number_of CarSpeed values = values.car_speed
number_of BikeSpeed values = values.bike_speed
number_of FootSpeed values = values.foot_speed

abbrev pub compares : Op → ℕ → ℕ → Bool
compares op.Eq a b = a == b
compares op.Ne a b = not (a == b)
compares op.Lt a b = nat_lt a b
compares op.Le a b = nat_le a b
compares op.Gt a b = nat_lt b a
compares op.Ge a b = nat_le b a

-- the binary digit of a number at a place, counted from the lowest
abbrev pub has_bit : ℕ → ℕ → Bool
has_bit bits place = bits / 2 ^ place % 2 == 1

-- two truth values are the same
abbrev pub agree : Bool → Bool → Bool
agree a b = if a then b else not b

abbrev pub all_true : List Bool → Bool
all_true [] = true
all_true (b ∷ bs) = b && all_true bs

abbrev pub any_true : List Bool → Bool
any_true [] = false
any_true (b ∷ bs) = b || any_true bs

-- a condition, once it is known of its parts whether they are true
abbrev pub test_step : Values → ℕ → Test-F Bool → Bool
test_step values areas Test-F.True = true
test_step values areas Test-F.False = false
test_step values areas (Test-F.InArea place) = has_bit areas place
test_step values areas (Test-F.Flag name) = flag_of name values
test_step values areas (Test-F.Word name equal word) = agree (word_of name values == word) equal
test_step values areas (Test-F.Compare name op value) = compares op (1000 * number_of name values) value
test_step values areas (Test-F.Not part) = not part
test_step values areas (Test-F.And parts) = all_true parts
test_step values areas (Test-F.Or parts) = any_true parts

-- whether a condition is true of these values and areas; a number is compared in thousandths
abbrev pub passes : Values → ℕ → Test → Bool
passes values areas = fold-Test Bool (test_step values areas)

-- a condition, once it is known of its parts whether each area they name is among so many
abbrev pub named_step : ℕ → Test-F Bool → Bool
named_step count Test-F.True = true
named_step count Test-F.False = true
named_step count (Test-F.InArea place) = nat_lt place count
named_step count (Test-F.Flag name) = true
named_step count (Test-F.Word name equal word) = true
named_step count (Test-F.Compare name op value) = true
named_step count (Test-F.Not part) = part
named_step count (Test-F.And parts) = all_true parts
named_step count (Test-F.Or parts) = all_true parts

-- each area that a condition names is among so many
abbrev pub names_areas_of : ℕ → Test → Bool
names_areas_of count = fold-Test Bool (named_step count)
