-- Which tokens write a condition (GraphHopper documentation, "Custom models", conditions; the exact form is this
-- project's own).
use Rattle.std.specs.Prelude.{◌≡◌, ◌≢◌, ℕ, zero, suc, ◌≤◌, ◌⊎◌, Bool, true, false, List, [], ◌∷◌, ◌++◌, length, Ok, Contains, ◌==◌, codes}
use Rattle.std.specs.List.{count_by}
use Rattle.model_eval.specs.declared.conditions.NumberName.{NumberName}
use Rattle.model_eval.specs.declared.conditions.NumberName.TheVariants as number
use Rattle.model_eval.specs.declared.conditions.Op.{Op}
use Rattle.model_eval.specs.declared.conditions.Test.{Test}
use Rattle.model_eval.specs.declared.conditions.Test.TheVariants as t
use Rattle.model_eval.specs.declared.conditions.WordName.{WordName}
use Rattle.model_eval.specs.declared.conditions.WordName.TheVariants as word
use Rattle.model_eval.specs.declared.custom_model.Area.{Area}
use Rattle.model_texts.specs.Conditions.{condition_of}
use Rattle.model_laws.specs.Conditions.{flags, operators, classes, surfaces, tolls}
use Rattle.model_laws.specs.Numerals.{IsDecimal}
use Rattle.model_laws.specs.Spelling.{IsSpelled}

-- the names of numbers
abbrev pub numbers : List (List ℕ × NumberName)
numbers =
    (codes "lanes", number.Lanes) ∷ (codes "max_speed", number.MaxSpeed) ∷ (codes "car_speed", number.CarSpeed) ∷
    (codes "bike_speed", number.BikeSpeed) ∷ (codes "foot_speed", number.FootSpeed) ∷ []

-- the names of enums
abbrev pub enums : List (List ℕ × WordName)
enums = (codes "road_class", word.RoadClass) ∷ (codes "surface", word.Surface) ∷ (codes "toll", word.Toll) ∷ []

-- the words of an enum, with their places
abbrev pub words_of : WordName → List (List ℕ × ℕ)
words_of word.RoadClass = classes
words_of word.Surface = surfaces
words_of word.Toll = tolls

-- what compares an enum with a word
abbrev pub equals : List (List ℕ × Bool)
equals = (codes "==", true) ∷ (codes "!=", false) ∷ []

-- the area of this id stands at this place, and none before it has the id
abbrev pub IsFirst : List Area → ℕ → List ℕ → Type 0
IsFirst [] place id = ⊥
IsFirst (a ∷ areas) zero id = a.id ≡ id
IsFirst (a ∷ areas) (suc place) id = (a.id ≢ id) × IsFirst areas place id

-- true, false, or the name of a truth value
abbrev pub IsFlag : Test → List (List ℕ) → Type 0
IsFlag x tokens = (name : List ℕ) × (tokens ≡ name ∷ []) × Contains flags (name, x)

-- in_ and the id of an area
pub record IsInside (areas : List Area) (x : Test) (tokens : List (List ℕ)) : Type 0 where
  pub id : List ℕ
  pub place : ℕ
  pub tokens_are : tokens ≡ (codes "in_" ++ id) ∷ []
  pub first : IsFirst areas place id
  pub test : x ≡ t.InArea place

-- an enum, == or !=, and one of its words
pub record IsOneWord (x : Test) (tokens : List (List ℕ)) : Type 0 where
  pub enum : List ℕ × WordName
  pub equal : List ℕ × Bool
  pub written : List ℕ × ℕ
  pub tokens_are : tokens ≡ enum.0 ∷ equal.0 ∷ written.0 ∷ []
  pub is_enum : Contains enums enum
  pub is_equal : Contains equals equal
  pub is_word : Contains (words_of enum.1) written
  pub test : x ≡ t.Word enum.1 equal.1 written.1

-- a number, an operator, and a decimal with at most three places
pub record IsComparison (x : Test) (tokens : List (List ℕ)) : Type 0 where
  pub number : List ℕ × NumberName
  pub operator : List ℕ × Op
  pub constant : List ℕ
  pub value : ℕ
  pub tokens_are : tokens ≡ number.0 ∷ operator.0 ∷ constant ∷ []
  pub is_number : Contains numbers number
  pub is_operator : Contains operators operator
  pub is_constant : IsDecimal 3 value constant
  pub test : x ≡ t.Compare number.1 operator.1 value

-- a condition without a sign between conditions
abbrev pub IsPlain : List Area → Test → List (List ℕ) → Type 0
IsPlain areas x tokens = IsFlag x tokens ⊎ (IsInside areas x tokens ⊎ (IsOneWord x tokens ⊎ IsComparison x tokens))

-- parentheses round what this is
abbrev pub IsInParentheses : (Test → List (List ℕ) → Type 0) → Test → List (List ℕ) → Type 0
IsInParentheses Is x tokens = (inner : List (List ℕ)) × (tokens ≡ codes "(" ∷ (inner ++ codes ")" ∷ [])) × Is x inner

-- so many exclamation marks before what this is: it isn't so
abbrev pub IsDenied : (Test → List (List ℕ) → Type 0) → ℕ → Test → List (List ℕ) → Type 0
IsDenied Is zero x tokens = Is x tokens
IsDenied Is (suc n) x tokens = (y : Test) × (rest : List (List ℕ)) × (x ≡ t.Not y) × (tokens ≡ codes "!" ∷ rest) × IsDenied Is n y rest

-- one of these or more, with a sign between them
abbrev pub AreJoined : (Test → List (List ℕ) → Type 0) → List ℕ → List Test → List (List ℕ) → Type 0
AreJoined Is sign [] tokens = ⊥
AreJoined Is sign (x ∷ []) tokens = Is x tokens
AreJoined Is sign (x ∷ y ∷ xs) tokens = (first rest : List (List ℕ)) × (tokens ≡ first ++ sign ∷ rest) × (Is x first × AreJoined Is sign (y ∷ xs) rest)

-- all of two or more, with && between, or one alone
abbrev pub IsAll : (Test → List (List ℕ) → Type 0) → Test → List (List ℕ) → Type 0
IsAll Is x tokens = Is x tokens ⊎ ((a b : Test) × (xs : List Test) × (x ≡ t.And (a ∷ b ∷ xs)) × AreJoined Is (codes "&&") (a ∷ b ∷ xs) tokens)

-- any of two or more, with || between, or one alone
abbrev pub IsAny : (Test → List (List ℕ) → Type 0) → Test → List (List ℕ) → Type 0
IsAny Is x tokens = Is x tokens ⊎ ((a b : Test) × (xs : List Test) × (x ≡ t.Or (a ∷ b ∷ xs)) × AreJoined Is (codes "||") (a ∷ b ∷ xs) tokens)

-- of these: any of all of them, each with or without exclamation marks; so && binds stronger than ||, and ! than both
abbrev pub IsOf : (Test → List (List ℕ) → Type 0) → Test → List (List ℕ) → Type 0
IsOf Is = IsAny (IsAll (λ x tokens. (n : ℕ) × IsDenied Is n x tokens))

-- these tokens write this condition, with at most so many parentheses open at once
abbrev pub IsWritten : List Area → ℕ → Test → List (List ℕ) → Type 0
IsWritten areas zero = IsOf (IsPlain areas)
IsWritten areas (suc depth) = IsOf (λ x tokens. IsPlain areas x tokens ⊎ IsInParentheses (IsWritten areas depth) x tokens)

-- a text of at most 1000 bytes and 32 opening parentheses whose tokens write a condition is this condition, whatever spaces stand between them
abbrev pub ConditionsAreRead : Type 0
ConditionsAreRead = (areas : List Area) (x : Test) (tokens : List (List ℕ)) (text : List ℕ) → IsWritten areas 32 x tokens → IsSpelled tokens text →
    length text ≤ 1000 → count_by (λ b. b == 40) text ≤ 32 → condition_of areas text ≡ Ok x
