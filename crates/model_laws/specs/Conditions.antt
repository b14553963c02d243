-- Conditions, by texts and what they are (GraphHopper documentation, "Custom models", conditions).
use Rattle.std.specs.Prelude.{◌≡◌, ℕ, Bool, true, false, List, [], ◌∷◌, ◌++◌, Ok, Err, map, codes}
use Rattle.gh_base.specs.declared.kinds.ModelKind.{ModelKind}
use Rattle.gh_base.specs.declared.kinds.ModelKind.TheVariants.{Condition, Name}
use Rattle.model_eval.specs.declared.conditions.FlagName.TheVariants as flag
use Rattle.model_eval.specs.declared.conditions.NumberName.{NumberName}
use Rattle.model_eval.specs.declared.conditions.NumberName.TheVariants as number
use Rattle.model_eval.specs.declared.conditions.Op.{Op}
use Rattle.model_eval.specs.declared.conditions.Op.TheVariants as op
use Rattle.model_eval.specs.declared.conditions.Test.{Test}
use Rattle.model_eval.specs.declared.conditions.Test.TheVariants as t
use Rattle.model_eval.specs.declared.conditions.WordName.{WordName}
use Rattle.model_eval.specs.declared.conditions.WordName.TheVariants as word
use Rattle.model_eval.specs.declared.custom_model.Area.{Area}
use Rattle.model_texts.specs.Conditions.{condition_of}

-- each of these texts is what stands beside it, where there are these areas
abbrev pub Are : List Area → List (List ℕ × Test) → Type 0
Are areas texts = map (λ (x : List ℕ × Test). condition_of areas x.0) texts ≡ map (λ (x : List ℕ × Test). Ok x.1) texts

abbrev pub flags : List (List ℕ × Test)
flags =
    (codes "road_class_link", t.Flag flag.RoadClassLink) ∷
    (codes "roundabout", t.Flag flag.Roundabout) ∷
    (codes "car_access", t.Flag flag.CarAccess) ∷
    (codes "bike_access", t.Flag flag.BikeAccess) ∷
    (codes "foot_access", t.Flag flag.FootAccess) ∷
    (codes "true", t.True) ∷
    (codes "false", t.False) ∷ []

abbrev pub operators : List (List ℕ × Op)
operators = (codes "==", op.Eq) ∷ (codes "!=", op.Ne) ∷ (codes "<", op.Lt) ∷ (codes "<=", op.Le) ∷ (codes ">", op.Gt) ∷ (codes ">=", op.Ge) ∷ []

-- a number's name, each operator, and 2.5
abbrev pub compared : List ℕ → NumberName → List (List ℕ × Test)
compared text name = map (λ (o : List ℕ × Op). (text ++ (o.0 ++ codes "2.5"), t.Compare name o.1 2500)) operators

abbrev pub NamesAreSo : Type 0
NamesAreSo =
    Are [] flags × (Are [] (compared (codes "lanes") number.Lanes) × (Are [] (compared (codes "max_speed") number.MaxSpeed) × (Are [] (compared (codes "car_speed") number.CarSpeed)
    × (Are [] (compared (codes "bike_speed") number.BikeSpeed) × Are [] (compared (codes "foot_speed") number.FootSpeed)))))

-- words, with their places
abbrev pub classes : List (List ℕ × ℕ)
classes =
    (codes "OTHER", 0) ∷ (codes "MOTORWAY", 1) ∷ (codes "TRUNK", 2) ∷ (codes "PRIMARY", 3) ∷ (codes "SECONDARY", 4) ∷ (codes "TERTIARY", 5) ∷
    (codes "UNCLASSIFIED", 6) ∷ (codes "RESIDENTIAL", 7) ∷ (codes "LIVING_STREET", 8) ∷ (codes "SERVICE", 9) ∷ (codes "TRACK", 10) ∷
    (codes "PATH", 11) ∷ (codes "FOOTWAY", 12) ∷ (codes "CYCLEWAY", 13) ∷ (codes "PEDESTRIAN", 14) ∷ (codes "STEPS", 15) ∷ []

abbrev pub surfaces : List (List ℕ × ℕ)
surfaces =
    (codes "MISSING", 0) ∷ (codes "PAVED", 1) ∷ (codes "ASPHALT", 2) ∷ (codes "CONCRETE", 3) ∷ (codes "PAVING_STONES", 4) ∷ (codes "COBBLESTONE", 5) ∷
    (codes "UNPAVED", 6) ∷ (codes "COMPACTED", 7) ∷ (codes "GRAVEL", 8) ∷ (codes "GROUND", 9) ∷ (codes "DIRT", 10) ∷ (codes "GRASS", 11) ∷
    (codes "SAND", 12) ∷ (codes "OTHER", 13) ∷ []

abbrev pub tolls : List (List ℕ × ℕ)
tolls = (codes "MISSING", 0) ∷ (codes "ALL", 1) ∷ (codes "NO", 2) ∷ []

-- an enum's name, and each of its words behind == and !=
abbrev pub worded : List ℕ → WordName → Bool → List (List ℕ × ℕ) → List (List ℕ × Test)
worded text name equal words = map (λ (w : List ℕ × ℕ). (text ++ w.0, t.Word name equal w.1)) words

abbrev pub WordsAreSo : Type 0
WordsAreSo =
    Are [] (worded (codes "road_class == ") word.RoadClass true classes) × (Are [] (worded (codes "surface == ") word.Surface true surfaces)
    × (Are [] (worded (codes "toll == ") word.Toll true tolls) × (Are [] (worded (codes "road_class!=") word.RoadClass false classes)
    × (Are [] (worded (codes "surface!=") word.Surface false surfaces) × Are [] (worded (codes "toll!=") word.Toll false tolls)))))

abbrev pub two_areas : List Area
two_areas = record { id = codes "old_town"; rings = [] } ∷ record { id = codes "B2"; rings = [] } ∷ []

abbrev pub conditions : List (List ℕ × Test)
conditions =
    (codes "in_old_town", t.InArea 0) ∷
    (codes "in_B2", t.InArea 1) ∷
    (codes " lanes  ==  3 ", t.Compare number.Lanes op.Eq 3000) ∷
    (codes "max_speed<0.125", t.Compare number.MaxSpeed op.Lt 125) ∷
    (codes "!!roundabout", t.Not (t.Not (t.Flag flag.Roundabout))) ∷
    (codes "in_B2&&!roundabout||toll==ALL", t.Or (t.And (t.InArea 1 ∷ t.Not (t.Flag flag.Roundabout) ∷ []) ∷ t.Word word.Toll true 1 ∷ [])) ∷
    (codes "in_B2 && (roundabout || toll == ALL)", t.And (t.InArea 1 ∷ t.Or (t.Flag flag.Roundabout ∷ t.Word word.Toll true 1 ∷ []) ∷ [])) ∷ []

abbrev pub ConditionsAreSo : Type 0
ConditionsAreSo = Are two_areas conditions

-- a text, the first byte that is wrong and what is wrong there
abbrev pub refused : List (List ℕ × (ℕ × ModelKind))
refused =
    ([], (0, Condition)) ∷
    (codes "lane == 1", (0, Name)) ∷
    (codes "in_B3", (0, Name)) ∷
    (codes "toll == SOME", (8, Name)) ∷
    (codes "toll < ALL", (5, Condition)) ∷
    (codes "toll == 1", (8, Condition)) ∷
    (codes "lanes == -1", (9, Condition)) ∷
    (codes "lanes == 1.2345", (9, Condition)) ∷
    (codes "lanes", (5, Condition)) ∷
    (codes "roundabout &", (11, Condition)) ∷
    (codes "(roundabout", (11, Condition)) ∷
    (codes "roundabout true", (11, Condition)) ∷ []

abbrev pub ConditionFaultsStandSo : Type 0
ConditionFaultsStandSo = map (λ (x : List ℕ × (ℕ × ModelKind)). condition_of two_areas x.0) refused ≡ map (λ (x : List ℕ × (ℕ × ModelKind)). Err x.1) refused
