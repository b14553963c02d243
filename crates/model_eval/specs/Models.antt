-- Which custom models there are.
use Rattle.std.specs.Prelude.{ℕ, ◌≤◌, ◌≡◌, Bool, true, false, ◌&&◌, ◌||◌, IsTrue, List, [], ◌∷◌, length, All, None}
use Rattle.model_eval.specs.declared.conditions.Test.TheVariants as test
use Rattle.model_eval.specs.declared.custom_model.Branch.{Branch}
use Rattle.model_eval.specs.declared.custom_model.Branch.TheVariants.{If, ElseIf, Else}
use Rattle.model_eval.specs.declared.custom_model.Action.{Action}
use Rattle.model_eval.specs.declared.custom_model.Action.TheVariants.{Multiply, Limit, MultiplyScaled, LimitScaled}
use Rattle.model_eval.specs.declared.custom_model.Statement.{Statement}
use Rattle.model_eval.specs.declared.custom_model.CustomModel.{CustomModel}
use Rattle.model_eval.specs.Conditions.{names_areas_of}
use Rattle.model_eval.specs.Running.{begins}

-- an expression scales by at most 10
abbrev pub IsBounded : Action → Type 0
IsBounded (Multiply c) = Unit {0}
IsBounded (Limit l) = Unit {0}
IsBounded (MultiplyScaled name by) = by ≤ 10000000
IsBounded (LimitScaled name by) = by ≤ 10000000

-- an `else_if` or `else` may follow
abbrev pub goes_on : Branch → Bool
goes_on If = true
goes_on ElseIf = true
goes_on Else = false

-- each `else_if` and `else` stands directly behind an `if` or `else_if`
abbrev pub are_in_blocks : Bool → List Statement → Bool
are_in_blocks may_go_on [] = true
are_in_blocks may_go_on (s ∷ ss) = (begins s.branch || may_go_on) && are_in_blocks (goes_on s.branch) ss

-- a statement of a model of so many areas
pub record IsStatement (areas : ℕ) (s : Statement) : Type 0 where
  pub named : IsTrue (names_areas_of areas s.test)
  pub bounded : IsBounded s.action
  pub unconditional : s.branch ≡ Else → s.test ≡ test.True

pub record AreStatements (areas : ℕ) (ss : List Statement) : Type 0 where
  pub few : length ss ≤ 100
  pub in_blocks : IsTrue (are_in_blocks false ss)
  pub each : All (IsStatement areas) ss

pub record IsModel (model : CustomModel) : Type 0 where
  pub speed : AreStatements (length model.areas) model.speed
  pub priority : AreStatements (length model.areas) model.priority
  pub areas : length model.areas ≤ 50

-- the model without a statement
abbrev pub no_model : CustomModel
no_model = record { speed = []; priority = []; distance_influence = None; areas = [] }
