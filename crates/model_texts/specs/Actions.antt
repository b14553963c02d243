-- The texts of actions: a decimal, or a stored number with a factor (GraphHopper documentation, "Custom models",
-- operators; the exact form is this project's own).
use Rattle.std.specs.Prelude.{◌≡◌, ℕ, ℤ, Bool, ◌||◌, List, [], ◌∷◌, length, Option, Some, None, Result, Ok, Err, ◌==◌, if◌then◌else◌, codes}
use Rattle.std.specs.List.{list_any}
use Rattle.gh_base.specs.declared.kinds.ModelKind.{ModelKind}
use Rattle.gh_base.specs.declared.kinds.ModelKind.TheVariants.{Name, Number}
use Rattle.gh_base.specs.Decimals.{decimal_of}
use Rattle.exact_json.specs.Parsing as parsing
use Rattle.exact_json.specs.Parsing.{◌>>=◌, ◌>>◌, pure}
use Rattle.model_eval.specs.declared.conditions.NumberName.{NumberName}
use Rattle.model_eval.specs.declared.custom_model.Running.{Running}
use Rattle.model_eval.specs.declared.custom_model.Action.{Action}
use Rattle.model_eval.specs.declared.custom_model.Action.TheVariants as action
use Rattle.model_texts.specs.declared.amounts.Verb.{Verb}
use Rattle.model_texts.specs.declared.amounts.Verb.TheVariants.{Multiply, Limit}
use Rattle.model_texts.specs.declared.actions.Refusal.{Refusal}
use Rattle.model_texts.specs.declared.actions.Multiple.{Multiple}
use Rattle.model_texts.specs.declared.fault.BadText.{BadText}
use Rattle.model_texts.specs.Tokens.{Reader, begins_word, peek, advance, unfit, expect, known, finish, ahead, by_byte}
use Rattle.model_texts.specs.Words.{number_of}
use Rattle.model_texts.specs.Amounts.{within, places_of, most_of, factor_of, front_of}

-- where a name could stand, a token that begins as one is Name, any other Number
abbrev pub kind_of : List ℕ → ModelKind
kind_of [] = Number
kind_of (b ∷ bytes) = if begins_word b then Name else Number

-- the name of a stored number
unfoldable pub name : Reader NumberName
name = do
  s ← peek
  known (kind_of s) (number_of s)

-- the sign between a name and a factor
unfoldable pub star : Reader (Unit {0})
star = expect Number (codes "*")

-- a factor, in millionths
unfoldable pub factor : Reader ℕ
factor = do
  s ← peek
  known Number (factor_of s)

-- behind a name: * and a factor, or the end, which stands for 1
unfoldable pub behind_name : Reader ℕ
behind_name = λ i. if ahead i == 0 then pure 1000000 i else (star >> factor) i

-- by what comes first
abbrev pub scaled_by : Option NumberName → Option ℕ → ModelKind → Reader Multiple
scaled_by (Some name) by kind = do
  advance
  by ← behind_name
  pure (record { name = name; by = by })
scaled_by None (Some by) kind = do
  advance
  star
  name ← name
  pure (record { name = name; by = by })
scaled_by None None kind = unfit kind

-- a name, a name with a factor behind it, or a factor with a name behind it
unfoldable pub scaled : Reader Multiple
scaled = do
  s ← peek
  scaled_by (number_of s) (factor_of s) (kind_of s)

-- and the end
unfoldable pub expression : Reader Multiple
expression = do
  x ← scaled
  finish Number
  pure x

-- an action by a stored number
abbrev pub scaled_action : Verb → Multiple → Action
scaled_action Multiply x = action.MultiplyScaled x.name x.by
scaled_action Limit x = action.LimitScaled x.name x.by

-- an action by a constant
abbrev pub plain_action : Verb → ℕ → Action
plain_action Multiply n = action.Multiply n
plain_action Limit n = action.Limit n

-- an expression has a letter, an underscore or a star
abbrev pub is_expression : List ℕ → Bool
is_expression text = list_any (λ b. begins_word b || b == 42) text

abbrev pub by_expression : Verb → Result Multiple (ℕ × ModelKind) → Result Action (ℕ × ModelKind)
by_expression verb (Ok x) = Ok (scaled_action verb x)
by_expression verb (Err e) = Err e

abbrev pub by_amount : Verb → Option ℕ → Result Action (ℕ × ModelKind)
by_amount verb (Some n) = Ok (plain_action verb n)
by_amount verb None = Err (0, Number)

-- by a decimal: what is none is refused behind its longest front, what is out of bounds at its first byte
abbrev pub by_decimal : Verb → Running → List ℕ → Option ℤ → Result Action (ℕ × ModelKind)
by_decimal verb running text (Some z) = by_amount verb (within (most_of verb running) z)
by_decimal verb running text None = Err (front_of (places_of verb running) text, Number)

-- the action that a text is, or its first fault
unfoldable pub action_of : Verb → Running → List ℕ → Result Action (ℕ × ModelKind)
action_of verb running text =
    if is_expression text then by_expression verb (by_byte (length text) (expression text))
    else by_decimal verb running text (decimal_of (places_of verb running) text)

-- what a reader without memory answers, and what it leaves, is the outcome
abbrev pub Gives : {A : Type 0} → parsing.Outcome ModelKind A → Result A Refusal → List ℕ → Type 0
Gives outcome (Ok a) new = outcome ≡ Ok (a, new)
Gives outcome (Err e) new = outcome ≡ Err (e.left, e.kind)

-- what `action_of` answers is what the text is
abbrev pub AnswersAction : Result Action (ℕ × ModelKind) → Result Action BadText → Type 0
AnswersAction outcome (Ok x) = outcome ≡ Ok x
AnswersAction outcome (Err bad) = outcome ≡ Err (bad.byte, bad.kind)
