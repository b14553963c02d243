-- The names and words of conditions and expressions (GraphHopper documentation, "Custom models", encoded values).
use Rattle.std.specs.Prelude.{ℕ, ◌+◌, Bool, true, false, List, [], ◌∷◌, take, drop, Option, Some, None, if◌then◌else◌, codes}
use Rattle.std.specs.Str.{bytes_eq}
use Rattle.encoded_values.specs.Words.{road_classes, surfaces, tolls, place_in}
use Rattle.model_eval.specs.declared.conditions.FlagName.{FlagName}
use Rattle.model_eval.specs.declared.conditions.FlagName.TheVariants as flag
use Rattle.model_eval.specs.declared.conditions.WordName.{WordName}
use Rattle.model_eval.specs.declared.conditions.WordName.TheVariants as word
use Rattle.model_eval.specs.declared.conditions.NumberName.{NumberName}
use Rattle.model_eval.specs.declared.conditions.NumberName.TheVariants as number
use Rattle.model_eval.specs.declared.conditions.Op.{Op}
use Rattle.model_eval.specs.declared.conditions.Op.TheVariants as op
use Rattle.model_eval.specs.declared.custom_model.Area.{Area}

-- the truth value of this name
abbrev pub flag_of : List ℕ → Option FlagName
flag_of s =
    if bytes_eq s (codes "road_class_link") then Some flag.RoadClassLink
    else if bytes_eq s (codes "roundabout") then Some flag.Roundabout
    else if bytes_eq s (codes "car_access") then Some flag.CarAccess
    else if bytes_eq s (codes "bike_access") then Some flag.BikeAccess
    else if bytes_eq s (codes "foot_access") then Some flag.FootAccess
    else None

-- the enum of this name
abbrev pub enum_of : List ℕ → Option WordName
enum_of s =
    if bytes_eq s (codes "road_class") then Some word.RoadClass
    else if bytes_eq s (codes "surface") then Some word.Surface
    else if bytes_eq s (codes "toll") then Some word.Toll
    else None

-- the number of this name
abbrev pub number_of : List ℕ → Option NumberName
number_of s =
    if bytes_eq s (codes "lanes") then Some number.Lanes
    else if bytes_eq s (codes "max_speed") then Some number.MaxSpeed
    else if bytes_eq s (codes "car_speed") then Some number.CarSpeed
    else if bytes_eq s (codes "bike_speed") then Some number.BikeSpeed
    else if bytes_eq s (codes "foot_speed") then Some number.FootSpeed
    else None

-- the operator that compares a number
abbrev pub op_of : List ℕ → Option Op
op_of s =
    if bytes_eq s (codes "==") then Some op.Eq
    else if bytes_eq s (codes "!=") then Some op.Ne
    else if bytes_eq s (codes "<") then Some op.Lt
    else if bytes_eq s (codes "<=") then Some op.Le
    else if bytes_eq s (codes ">") then Some op.Gt
    else if bytes_eq s (codes ">=") then Some op.Ge
    else None

-- the two operators that fit an enum
abbrev pub equal_of : List ℕ → Option Bool
equal_of s = if bytes_eq s (codes "==") then Some true else if bytes_eq s (codes "!=") then Some false else None

-- the place of a word among those of its enum
abbrev pub word_of : WordName → List ℕ → Option ℕ
word_of word.RoadClass s = place_in road_classes s
word_of word.Surface s = place_in surfaces s
word_of word.Toll s = place_in tolls s

-- the place of the first area of this id, counted from a number
abbrev pub place_from : ℕ → List Area → List ℕ → Option ℕ
place_from n [] id = None
place_from n (a ∷ areas) id = if bytes_eq a.id id then Some n else place_from (n + 1) areas id

-- the place of the area that stands behind in_
abbrev pub area_of : List Area → List ℕ → Option ℕ
area_of areas s = if bytes_eq (take 3 s) (codes "in_") then place_from 0 areas (drop 3 s) else None
