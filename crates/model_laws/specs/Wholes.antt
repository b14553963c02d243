-- Which JSON values write statements and whole models (GraphHopper documentation, "Custom models"; the exact form is this
-- project's own).
use Rattle.std.specs.Prelude.{◌≡◌, ◌≢◌, ℕ, ◌+◌, ◌*◌, ◌^◌, ◌≤◌, ◌⊎◌, Bool, true, false, List, [], ◌∷◌, ◌++◌, length, Some, None, Ok, Err, codes}
use Rattle.gh_base.specs.declared.kinds.ModelKind.TheVariants.{NoIf}
use Rattle.gh_base.specs.declared.kinds.Part.{Part}
use Rattle.gh_base.specs.declared.kinds.Part.TheVariants as part
use Rattle.gh_base.specs.declared.kinds.Place3.{Place3}
use Rattle.exact_json.specs.Decimals.{DecimalValue}
use Rattle.exact_json.specs.declared.value.Json.{Json}
use Rattle.exact_json.specs.declared.value.Json.TheVariants as j
use Rattle.exact_json.specs.declared.value.Member.{Member, out-Member}
use Rattle.model_eval.specs.declared.conditions.Test.{Test}
use Rattle.model_eval.specs.declared.conditions.Test.TheVariants as t
use Rattle.model_eval.specs.declared.custom_model.Action.{Action}
use Rattle.model_eval.specs.declared.custom_model.Action.TheVariants as action
use Rattle.model_eval.specs.declared.custom_model.Area.{Area}
use Rattle.model_eval.specs.declared.custom_model.Branch.{Branch}
use Rattle.model_eval.specs.declared.custom_model.Branch.TheVariants.{If, ElseIf, Else}
use Rattle.model_eval.specs.declared.custom_model.CustomModel.{CustomModel}
use Rattle.model_eval.specs.declared.custom_model.Running.{Running}
use Rattle.model_eval.specs.declared.custom_model.Running.TheVariants as running
use Rattle.model_eval.specs.declared.custom_model.Statement.{Statement}
use Rattle.model_texts.specs.declared.amounts.Verb.{Verb}
use Rattle.model_texts.specs.declared.amounts.Verb.TheVariants.{Multiply, Limit}
use Rattle.model_texts.specs.Actions.{action_of}
use Rattle.model_texts.specs.Conditions.{condition_of}
use Rattle.model_parser.specs.Features.{collection_of}
use Rattle.model_parser.specs.ModelText.{model_of}
use Rattle.model_laws.specs.Numerals.{IsDecimal}

-- a member has this key, and its value is so
abbrev pub IsMember : List ℕ → (Json → Type 0) → Member → Type 0
IsMember key Is m = ((out-Member m).key ≡ key) × Is (out-Member m).value

-- `if` and `else_if` ask a condition, by its text; `else` asks nothing, by null or the empty text
abbrev pub Asks : List Area → Branch → Test → Json → Type 0
Asks areas If x v = (text : List ℕ) × (v ≡ j.Str text) × (condition_of areas text ≡ Ok x)
Asks areas ElseIf x v = (text : List ℕ) × (v ≡ j.Str text) × (condition_of areas text ≡ Ok x)
Asks areas Else x v = (x ≡ t.True) × ((v ≡ j.Null) ⊎ (v ≡ j.Str []))

abbrev pub branch_key : Branch → List ℕ
branch_key If = codes "if"
branch_key ElseIf = codes "else_if"
branch_key Else = codes "else"

abbrev pub verb_key : Verb → List ℕ
verb_key Multiply = codes "multiply_by"
verb_key Limit = codes "limit_to"

-- a number is so many units of the last of so many places, none of which is left out
pub record IsExactly (places n : ℕ) (d : DecimalValue) : Type 0 where
  pub sign : d.negative ≡ false
  pub few : d.places ≤ places
  pub worth_is : n * 10 ^ d.places ≡ d.digits * 10 ^ places

-- a constant: a factor or a limit of priority in millionths, up to 10; a limit of speed in thousandths of a km/h, up to
-- 1000 km/h
abbrev pub IsConstant : Running → Verb → Action → DecimalValue → Type 0
IsConstant running Multiply a d = (n : ℕ) × (a ≡ action.Multiply n) × (IsExactly 6 n d × (n ≤ 10000000))
IsConstant running.Speed Limit a d = (n : ℕ) × (a ≡ action.Limit n) × (IsExactly 3 n d × (n ≤ 1000000))
IsConstant running.Priority Limit a d = (n : ℕ) × (a ≡ action.Limit n) × (IsExactly 6 n d × (n ≤ 10000000))

-- what is done: by a text, or by a number
abbrev pub Does : Running → Verb → Action → Json → Type 0
Does running verb a v =
    ((text : List ℕ) × (v ≡ j.Str text) × (action_of verb running text ≡ Ok a))
    ⊎ ((d : DecimalValue) × (v ≡ j.Number d) × IsConstant running verb a d)

-- an object of two members in either order: what is asked, and what is done
pub record IsStatement (running : Running) (areas : List Area) (s : Statement) (v : Json) : Type 0 where
  pub asked : Member
  pub done : Member
  pub verb : Verb
  pub either : (v ≡ j.Object (asked ∷ done ∷ [])) ⊎ (v ≡ j.Object (done ∷ asked ∷ []))
  pub asks : IsMember (branch_key s.branch) (Asks areas s.branch s.test) asked
  pub does : IsMember (verb_key verb) (Does running verb s.action) done

-- `else_if` and `else` stand directly behind an `if` or `else_if`
abbrev pub MayStand : Bool → Branch → Type 0
MayStand behind If = Unit {0}
MayStand behind ElseIf = behind ≡ true
MayStand behind Else = behind ≡ true

abbrev pub goes_on : Branch → Bool
goes_on If = true
goes_on ElseIf = true
goes_on Else = false

-- these values write these statements, one by one
abbrev pub AreStatements : Running → List Area → Bool → List Statement → List Json → Type 0
AreStatements running areas behind [] [] = Unit {0}
AreStatements running areas behind [] (v ∷ vs) = ⊥
AreStatements running areas behind (s ∷ ss) [] = ⊥
AreStatements running areas behind (s ∷ ss) (v ∷ vs) = MayStand behind s.branch × (IsStatement running areas s v × AreStatements running areas (goes_on s.branch) ss vs)

-- an array of at most 100 statements
abbrev pub IsList : Running → List Area → List Statement → Json → Type 0
IsList running areas ss v = (vs : List Json) × (v ≡ j.Array vs) × (AreStatements running areas false ss vs × (length vs ≤ 100))

-- a whole number of at most 100000, as a number or a text
abbrev pub IsInfluence : ℕ → Json → Type 0
IsInfluence n v =
    (((d : DecimalValue) × (v ≡ j.Number d) × ((d.negative ≡ false) × (d.digits ≡ n * 10 ^ d.places)))
    ⊎ ((text : List ℕ) × (v ≡ j.Str text) × IsDecimal 0 n text)) × (n ≤ 100000)

-- none of these members has this key
abbrev pub Lacks : List ℕ → List Member → Type 0
Lacks key [] = Unit {0}
Lacks key (m ∷ ms) = ((out-Member m).key ≢ key) × Lacks key ms

-- a member of this key, wherever it stands, has a value that is so
pub record Has (key : List ℕ) (Is : Json → Type 0) (ms : List Member) : Type 0 where
  pub before : List Member
  pub member : Member
  pub behind : List Member
  pub members_are : ms ≡ before ++ member ∷ behind
  pub none_before : Lacks key before
  pub is : IsMember key Is member

-- no member has this key, and then this holds; or one has it, and its value is so
abbrev pub IsPart : List ℕ → Type 0 → (Json → Type 0) → List Member → Type 0
IsPart key Without Is ms = (Lacks key ms × Without) ⊎ Has key Is ms

-- each key is one of these four
abbrev pub AreKeys : List Member → Type 0
AreKeys [] = Unit {0}
AreKeys (m ∷ ms) =
    (((out-Member m).key ≡ codes "speed") ⊎ (((out-Member m).key ≡ codes "priority") ⊎ (((out-Member m).key ≡ codes "distance_influence") ⊎ ((out-Member m).key ≡ codes "areas")))) × AreKeys ms

-- members that write a model, in whatever order they stand
pub record IsModelOf (model : CustomModel) (ms : List Member) : Type 0 where
  pub keys : AreKeys ms
  pub areas : IsPart (codes "areas") (model.areas ≡ []) (λ v. collection_of v ≡ Ok model.areas) ms
  pub speed : IsPart (codes "speed") (model.speed ≡ []) (IsList running.Speed model.areas model.speed) ms
  pub priority : IsPart (codes "priority") (model.priority ≡ []) (IsList running.Priority model.areas model.priority) ms
  pub influence : IsPart (codes "distance_influence") (model.distance_influence ≡ None) (λ v. (n : ℕ) × (model.distance_influence ≡ Some n) × IsInfluence n v) ms

-- whether an `else_if` or `else` may stand directly behind these
abbrev pub goes_on_behind : Bool → List Statement → Bool
goes_on_behind behind [] = behind
goes_on_behind behind (s ∷ ss) = goes_on_behind (goes_on s.branch) ss

-- an array whose item of this number, counted from 1, is the first `else_if` or `else` that stands behind neither an `if` nor an `else_if`
pub record IsOrphaned (running : Running) (areas : List Area) (item : ℕ) (v : Json) : Type 0 where
  pub front : List Json
  pub before : List Statement
  pub value : Json
  pub orphan : Statement
  pub behind : List Json
  pub array_is : v ≡ j.Array (front ++ value ∷ behind)
  pub few : length (front ++ value ∷ behind) ≤ 100
  pub are : AreStatements running areas false before front
  pub closed : goes_on_behind false before ≡ false
  pub no_if : orphan.branch ≢ If
  pub is : IsStatement running areas orphan value
  pub item_is : item ≡ 1 + length front

-- a fault of an item itself
abbrev pub at_item : Part → ℕ → Place3
at_item part item = record { part = part; item = item; byte = 0 }

-- an object in whose list of speeds, or else in whose list of priorities, such an item stands is refused with it
pub record OrphansAreRefused : Type 0 where
  pub speed : (areas : List Area) (ms : List Member) (item : ℕ) → AreKeys ms → IsPart (codes "areas") (areas ≡ []) (λ v. collection_of v ≡ Ok areas) ms → Has (codes "speed") (IsOrphaned running.Speed areas item) ms →
      model_of (j.Object ms) ≡ Err (at_item part.Speed item, NoIf)
  pub priority : (areas : List Area) (speed : List Statement) (ms : List Member) (item : ℕ) → AreKeys ms → IsPart (codes "areas") (areas ≡ []) (λ v. collection_of v ≡ Ok areas) ms →
      IsPart (codes "speed") (speed ≡ []) (IsList running.Speed areas speed) ms → Has (codes "priority") (IsOrphaned running.Priority areas item) ms →
      model_of (j.Object ms) ≡ Err (at_item part.Priority item, NoIf)

-- an object that writes a model is read as that model
abbrev pub ModelsAreRead : Type 0
ModelsAreRead = (model : CustomModel) (ms : List Member) → IsModelOf model ms → model_of (j.Object ms) ≡ Ok model
