-- Which texts write an action (GraphHopper documentation, "Custom models", operators; the exact form is this project's own).
use Rattle.std.specs.Prelude.{◌≡◌, ℕ, ◌≤◌, ◌⊎◌, List, [], ◌∷◌, Ok, Contains, codes}
use Rattle.model_eval.specs.declared.conditions.NumberName.{NumberName}
use Rattle.model_eval.specs.declared.custom_model.Action.TheVariants as action
use Rattle.model_eval.specs.declared.custom_model.Running.{Running}
use Rattle.model_eval.specs.declared.custom_model.Running.TheVariants.{Speed, Priority}
use Rattle.model_texts.specs.declared.amounts.Verb.TheVariants.{Multiply, Limit}
use Rattle.model_texts.specs.Actions.{action_of}
use Rattle.model_laws.specs.Grammar.{numbers}
use Rattle.model_laws.specs.Numerals.{IsDecimal}
use Rattle.model_laws.specs.Spelling.{IsSpelled}

-- a factor in millionths: a decimal of at most six places, and at most 10
abbrev pub IsFactor : ℕ → List ℕ → Type 0
IsFactor by text = IsDecimal 6 by text × (by ≤ 10000000)

-- a number alone; a number, * and a factor; or a factor, * and a number
abbrev pub IsOrdered : ℕ → List ℕ → List (List ℕ) → Type 0
IsOrdered by name tokens =
    ((tokens ≡ name ∷ []) × (by ≡ 1000000))
    ⊎ ((factor : List ℕ) × IsFactor by factor × ((tokens ≡ name ∷ codes "*" ∷ factor ∷ []) ⊎ (tokens ≡ factor ∷ codes "*" ∷ name ∷ [])))

-- these tokens write a stored number times so many millionths
abbrev pub IsMultiple : NumberName → ℕ → List (List ℕ) → Type 0
IsMultiple name by tokens = (text : List ℕ) × Contains numbers (text, name) × IsOrdered by text tokens

-- factors and limits of priority are in millionths, up to 10; limits of speed are in thousandths of a km/h, up to 1000 km/h
pub record ActionsAreRead : Type 0 where
  pub factor : (running : Running) (n : ℕ) (text : List ℕ) → IsDecimal 6 n text → n ≤ 10000000 → action_of Multiply running text ≡ Ok (action.Multiply n)
  pub speed : (n : ℕ) (text : List ℕ) → IsDecimal 3 n text → n ≤ 1000000 → action_of Limit Speed text ≡ Ok (action.Limit n)
  pub priority : (n : ℕ) (text : List ℕ) → IsDecimal 6 n text → n ≤ 10000000 → action_of Limit Priority text ≡ Ok (action.Limit n)
  pub multiple : (running : Running) (name : NumberName) (by : ℕ) (tokens : List (List ℕ)) (text : List ℕ) → IsMultiple name by tokens → IsSpelled tokens text →
      action_of Multiply running text ≡ Ok (action.MultiplyScaled name by)
  pub limit : (running : Running) (name : NumberName) (by : ℕ) (tokens : List (List ℕ)) (text : List ℕ) → IsMultiple name by tokens → IsSpelled tokens text →
      action_of Limit running text ≡ Ok (action.LimitScaled name by)
