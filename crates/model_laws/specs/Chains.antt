-- What a list of statements makes of a number, from its front on (GraphHopper documentation, "Custom models"): of an `if`
-- and what follows it up to the next, the first true statement acts, and then what stands behind them.
use Rattle.std.specs.Prelude.{◌≡◌, ℕ, ◌+◌, ◌*◌, ◌<◌, ◌≤◌, min, true, false, List, [], ◌∷◌}
use Rattle.encoded_values.specs.Values.{Values}
use Rattle.model_eval.specs.Conditions.{passes}
use Rattle.model_eval.specs.Running.{run}
use Rattle.model_eval.specs.declared.conditions.NumberName.TheVariants as number
use Rattle.model_eval.specs.declared.conditions.Test.TheVariants as t
use Rattle.model_eval.specs.declared.custom_model.Action.{Action}
use Rattle.model_eval.specs.declared.custom_model.Action.TheVariants as action
use Rattle.model_eval.specs.declared.custom_model.Branch.{Branch}
use Rattle.model_eval.specs.declared.custom_model.Branch.TheVariants.{If, ElseIf, Else}
use Rattle.model_eval.specs.declared.custom_model.Running.{Running}
use Rattle.model_eval.specs.declared.custom_model.Running.TheVariants.{Speed}
use Rattle.model_eval.specs.declared.custom_model.Statement.{Statement}

-- the first at an `if`, else the second
abbrev pub at_if : Branch → List Statement → List Statement → List Statement
at_if If a b = a
at_if ElseIf a b = b
at_if Else a b = b

-- from the first `if` on
abbrev pub behind_chain : List Statement → List Statement
behind_chain [] = []
behind_chain (s ∷ ss) = at_if s.branch (s ∷ ss) (behind_chain ss)

-- with an `if` in place of an `else_if` or `else` at the front
abbrev pub begun : List Statement → List Statement
begun [] = []
begun (s ∷ ss) = at_if s.branch (s ∷ ss) (record { branch = If; test = s.test; action = s.action } ∷ ss)

-- one action, whatever is asked
abbrev pub alone : Action → List Statement
alone a = record { branch = If; test = t.True; action = a } ∷ []

-- a number is so many millionths of another, rounded down
abbrev pub IsShare : ℕ → ℕ → ℕ → Type 0
IsShare share millionths x = (share * 1000000 ≤ x * millionths) × (x * millionths < (share + 1) * 1000000)

pub record ChainsAreRun : Type 0 where
  -- no statement changes nothing
  pub none : (running : Running) (values : Values) (areas x : ℕ) → run running [] values areas x ≡ x
  -- a true `if` acts, and no `else_if` or `else` of it does
  pub first : (running : Running) (values : Values) (areas x : ℕ) (s : Statement) (ss : List Statement) → s.branch ≡ If → passes values areas s.test ≡ true →
      run running (s ∷ ss) values areas x ≡ run running (behind_chain ss) values areas (run running (alone s.action) values areas x)
  -- behind a false `if` an `else_if` or `else` is as an `if`
  pub later : (running : Running) (values : Values) (areas x : ℕ) (s : Statement) (ss : List Statement) → s.branch ≡ If → passes values areas s.test ≡ false →
      run running (s ∷ ss) values areas x ≡ run running (begun ss) values areas x
  -- a factor in millionths, up to 10^9
  pub factor : (running : Running) (values : Values) (areas x c share : ℕ) → IsShare share c x → run running (alone (action.Multiply c)) values areas x ≡ min share 1000000000
  -- a limit
  pub limit : (running : Running) (values : Values) (areas x l : ℕ) → run running (alone (action.Limit l)) values areas x ≡ min x l
  -- so many millionths of a stored speed in km/h, as a limit in thousandths of a km/h
  pub scaled : (values : Values) (areas x by share : ℕ) → IsShare share by (1000 * values.car_speed) → run Speed (alone (action.LimitScaled number.CarSpeed by)) values areas x ≡ min x share
  -- a missing maximum speed changes nothing
  pub missing : (running : Running) (values : Values) (areas x by : ℕ) → values.max_speed ≡ 255 → run running (alone (action.LimitScaled number.MaxSpeed by)) values areas x ≡ x
