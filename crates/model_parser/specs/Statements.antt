-- Statements and their lists (GraphHopper documentation, "Custom models", statements).
use Rattle.std.specs.Prelude.{ℕ, ◌+◌, ◌-◌, ◌*◌, ◌^◌, Bool, true, false, ◌&&◌, ◌||◌, List, [], ◌∷◌, ◌++◌, length, Option, Some, None, Ok, nat_lt, nat_le, codes, if◌then◌else◌}
use Rattle.std.specs.Option.{is_some}
use Rattle.std.specs.Str.{bytes_eq}
use Rattle.gh_base.specs.declared.kinds.Part.{Part}
use Rattle.gh_base.specs.declared.kinds.Part.TheVariants as part
use Rattle.gh_base.specs.declared.kinds.ModelKind.TheVariants as kind
use Rattle.exact_json.specs.Decimals.{DecimalValue}
use Rattle.exact_json.specs.declared.value.Json.{Json}
use Rattle.exact_json.specs.declared.value.Member.{Member, out-Member}
use Rattle.model_eval.specs.declared.conditions.Test.{Test}
use Rattle.model_eval.specs.declared.conditions.Test.TheVariants as test
use Rattle.model_eval.specs.declared.custom_model.Area.{Area}
use Rattle.model_eval.specs.declared.custom_model.Running.{Running}
use Rattle.model_eval.specs.declared.custom_model.Running.TheVariants as running
use Rattle.model_eval.specs.declared.custom_model.Branch.{Branch}
use Rattle.model_eval.specs.declared.custom_model.Branch.TheVariants.{If, ElseIf, Else}
use Rattle.model_eval.specs.declared.custom_model.Action.{Action}
use Rattle.model_eval.specs.declared.custom_model.Statement.{Statement}
use Rattle.model_eval.specs.Models.{goes_on}
use Rattle.model_eval.specs.Running.{begins}
use Rattle.model_texts.specs.declared.amounts.Verb.{Verb}
use Rattle.model_texts.specs.declared.amounts.Verb.TheVariants.{Multiply, Limit}
use Rattle.model_texts.specs.Amounts.{places_of, most_of}
use Rattle.model_texts.specs.Actions.{action_of, plain_action}
use Rattle.model_texts.specs.Conditions.{condition_of}
use Rattle.model_parser.specs.Faults.{Outcome, ◌>>=◌, ◌>>◌, pure, fault, known, must, in_text}
use Rattle.model_parser.specs.Values.{object_of, array_of, text_of, number_of, is_null}

abbrev pub branch_of : List ℕ → Option Branch
branch_of key =
    if bytes_eq key (codes "if") then Some If
    else if bytes_eq key (codes "else_if") then Some ElseIf
    else if bytes_eq key (codes "else") then Some Else
    else None

abbrev pub verb_of : List ℕ → Option Verb
verb_of key =
    if bytes_eq key (codes "multiply_by") then Some Multiply
    else if bytes_eq key (codes "limit_to") then Some Limit
    else None

abbrev pub part_of : Running → Part
part_of running.Speed = part.Speed
part_of running.Priority = part.Priority

-- the text is empty
abbrev pub is_empty : Option (List ℕ) → Bool
is_empty (Some []) = true
is_empty _ = false

-- `if` and `else_if` take a string, `else` the empty string or null
abbrev pub fits : Branch → Json → Bool
fits If v = is_some (text_of v)
fits ElseIf v = is_some (text_of v)
fits Else v = is_null v || is_empty (text_of v)

-- an action takes a string or a number
abbrev pub is_amount : Json → Bool
is_amount v = is_some (text_of v) || is_some (number_of v)

abbrev pub in_condition : Running → ℕ → List Area → List ℕ → Outcome Test
in_condition running item areas text = in_text (part_of running) item (condition_of areas text)

-- what a branch asks; `else` asks nothing
abbrev pub test_of : Running → ℕ → List Area → Branch → Option (List ℕ) → Outcome Test
test_of running item areas Else text = pure test.True
test_of running item areas branch (Some text) = in_condition running item areas text
test_of running item areas branch None = fault (part_of running) item kind.Statement

-- a number with at most so many places, in units of the last of them, up to a greatest
abbrev pub scaled : ℕ → ℕ → DecimalValue → Option ℕ
scaled places most d =
    if d.negative || nat_lt places d.places || nat_lt most (d.digits * 10 ^ (places - d.places)) then None
    else Some (d.digits * 10 ^ (places - d.places))

abbrev pub by_number : Verb → Running → ℕ → Option ℕ → Outcome Action
by_number verb running item (Some n) = pure (plain_action verb n)
by_number verb running item None = fault (part_of running) item kind.Number

-- an action, by its text or its number
abbrev pub action_by : Verb → Running → ℕ → Option (List ℕ) → Option DecimalValue → Outcome Action
action_by verb running item (Some text) number = in_text (part_of running) item (action_of verb running text)
action_by verb running item None (Some d) = by_number verb running item (scaled (places_of verb running) (most_of verb running) d)
action_by verb running item None None = fault (part_of running) item kind.Statement

-- what a statement asks, and then what it does
unfoldable pub acting : Running → List Area → ℕ → Branch → Json → Verb → Json → Outcome Statement
acting running areas item branch asked verb amount = do
  test ← test_of running item areas branch (text_of asked)
  action ← action_by verb running item (text_of amount) (number_of amount)
  pure (record { branch = branch; test = test; action = action })

-- a statement of this branch and this action, by the values of its two members
unfoldable pub written : Running → List Area → ℕ → Bool → Branch → Json → Verb → Json → Outcome Statement
written running areas item may_go_on branch asked verb amount = do
  must (part_of running) item kind.Statement (fits branch asked && is_amount amount)
  must (part_of running) item kind.NoIf (begins branch || may_go_on)
  acting running areas item branch asked verb amount

-- by the keys of the two members, in either order
abbrev pub by_keys : Running → List Area → ℕ → Bool → Option Branch → Json → Option Verb → Json → Outcome Statement → Outcome Statement
by_keys running areas item may_go_on (Some branch) asked (Some verb) amount other = written running areas item may_go_on branch asked verb amount
by_keys running areas item may_go_on (Some branch) asked None amount other = other
by_keys running areas item may_go_on None asked verb amount other = other

-- two members
abbrev pub by_members : Running → List Area → ℕ → Bool → List Member → Outcome Statement
by_members running areas item may_go_on (a ∷ b ∷ []) =
    by_keys running areas item may_go_on (branch_of (out-Member a).key) (out-Member a).value (verb_of (out-Member b).key) (out-Member b).value
    (by_keys running areas item may_go_on (branch_of (out-Member b).key) (out-Member b).value (verb_of (out-Member a).key) (out-Member a).value
    (fault (part_of running) item kind.Statement))
by_members running areas item may_go_on _ = fault (part_of running) item kind.Statement

unfoldable pub statement_of : Running → List Area → ℕ → Bool → Json → Outcome Statement
statement_of running areas item may_go_on v = do
  members ← known (part_of running) item kind.Statement (object_of v)
  by_members running areas item may_go_on members

-- statements, from an item on, behind those that were found
abbrev pub statements_from : Running → List Area → ℕ → Bool → List Statement → List Json → Outcome (List Statement)
statements_from running areas item may_go_on found [] = Ok found
statements_from running areas item may_go_on found (v ∷ vs) =
    statement_of running areas item may_go_on v >>= λ s. statements_from running areas (item + 1) (goes_on s.branch) (found ++ s ∷ []) vs

-- a list of at most 100 statements
unfoldable pub list_of : Running → List Area → Json → Outcome (List Statement)
list_of running areas v = do
  values ← known (part_of running) 0 kind.NotList (array_of v)
  must (part_of running) 0 kind.TooMany (nat_le (length values) 100)
  statements_from running areas 1 false [] values

-- a list of a model; none where it has no such part
abbrev pub statements_of : Running → List Area → Option Json → Outcome (List Statement)
statements_of running areas None = pure []
statements_of running areas (Some v) = list_of running areas v
