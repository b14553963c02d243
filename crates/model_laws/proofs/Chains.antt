-- Statements run from the front of their list on.
use Rattle.std.proofs.Common.{◌≡◌, ◌∙◌, ℕ, ◌+◌, ◌*◌, ◌/◌, ◌<◌, ◌≤◌, Bool, true, false, List, [], ◌∷◌, refl, ap, sym, arith}
use Rattle.std.specs.Prelude.{min}
use Rattle.encoded_values.specs.Values.{Values}
use Rattle.model_eval.specs.Conditions.{passes, test_step}
use Rattle.model_eval.specs.Running.{blocks, act, run}
use Rattle.model_eval.specs.declared.conditions.NumberName.TheVariants as number
use Rattle.model_eval.specs.declared.conditions.Test.TheVariants as t
use Rattle.model_eval.specs.declared.conditions.Test.TheOpen.{Test-F}
use Rattle.model_eval.specs.declared.conditions.Test.TheFolds.{fold-roll-Test}
use Rattle.model_eval.specs.declared.custom_model.Action.{Action}
use Rattle.model_eval.specs.declared.custom_model.Action.TheVariants as action
use Rattle.model_eval.specs.declared.custom_model.Branch.{Branch}
use Rattle.model_eval.specs.declared.custom_model.Branch.TheVariants.{If, ElseIf, Else}
use Rattle.model_eval.specs.declared.custom_model.Running.{Running}
use Rattle.model_eval.specs.declared.custom_model.Running.TheVariants.{Speed}
use Rattle.model_eval.specs.declared.custom_model.Statement.{Statement}
use Rattle.model_laws.specs.Chains.{behind_chain, begun, alone, IsShare, ChainsAreRun}

true_passes : (values : Values) (areas : ℕ) → passes values areas t.True ≡ true
true_passes values areas = ap (passes values areas) (sym t.rolls-True) ∙ fold-roll-Test Bool (test_step values areas) Test-F.True

module _ (running : Running) (values : Values) (areas : ℕ) where
  acts_alone : (x : ℕ) (a : Action) → run running (alone a) values areas x ≡ act running a values x
  unfolding run
  acts_alone x a = rw (true_passes values areas) refl

  behind_blocks : (ss : List Statement) → (blocks (behind_chain ss)).1 ≡ (blocks ss).1
  behind_blocks [] = refl
  behind_blocks (s ∷ ss) = by s.branch refl (behind_blocks ss)
    where
      by : (b : Branch) → s.branch ≡ b → (blocks (behind_chain ss)).1 ≡ (blocks ss).1 → (blocks (behind_chain (s ∷ ss))).1 ≡ (blocks (s ∷ ss)).1
      by If e h = rw e refl
      by ElseIf e h = rw e h
      by Else e h = rw e h

  first_runs : (x : ℕ) (s : Statement) (ss : List Statement) → s.branch ≡ If → passes values areas s.test ≡ true →
      run running (s ∷ ss) values areas x ≡ run running (behind_chain ss) values areas (run running (alone s.action) values areas x)
  unfolding run
  first_runs x s ss e is = rw (e, is, true_passes values areas, behind_blocks ss) refl

  later_runs : (x : ℕ) (s : Statement) (ss : List Statement) → s.branch ≡ If → passes values areas s.test ≡ false → run running (s ∷ ss) values areas x ≡ run running (begun ss) values areas x
  unfolding run
  later_runs x s [] e is = rw (e, is) refl
  later_runs x s (n ∷ ss) e is = by n.branch refl
    where
      by : (b : Branch) → n.branch ≡ b → run running (s ∷ n ∷ ss) values areas x ≡ run running (begun (n ∷ ss)) values areas x
      by If f = rw (e, f, is) refl
      by ElseIf f = rw (e, f, is) refl
      by Else f = rw (e, f, is) refl

-- what is rounded down is the quotient
share_is : (share c x : ℕ) → IsShare share c x → x * c / 1000000 ≡ share
share_is share c x h = quotient (x * c) share h.0 h.1
  where
    quotient : (n q : ℕ) → q * 1000000 ≤ n → n < (q + 1) * 1000000 → n / 1000000 ≡ q
    quotient n q low high = omega arith

factor_runs : (running : Running) (values : Values) (areas x c share : ℕ) → IsShare share c x → run running (alone (action.Multiply c)) values areas x ≡ min share 1000000000
factor_runs running values areas x c share h = acts_alone running values areas x (action.Multiply c) ∙ rw (share_is share c x h) refl

scaled_runs : (values : Values) (areas x by share : ℕ) → IsShare share by (1000 * values.car_speed) → run Speed (alone (action.LimitScaled number.CarSpeed by)) values areas x ≡ min x share
scaled_runs values areas x by share h =
    let same : values.car_speed * by / 1000 ≡ share = quotient values.car_speed share by h.0 h.1 in
    acts_alone Speed values areas x (action.LimitScaled number.CarSpeed by) ∙ rw same refl
  where
    thousandth : (n q : ℕ) → q * 1000000 ≤ 1000 * n → 1000 * n < (q + 1) * 1000000 → n / 1000 ≡ q
    thousandth n q low high = omega arith

    spread : (v f : ℕ) → 1000 * v * f ≡ 1000 * (v * f)
    spread v f = grind arith

    quotient : (v q f : ℕ) → q * 1000000 ≤ 1000 * v * f → 1000 * v * f < (q + 1) * 1000000 → v * f / 1000 ≡ q
    quotient v q f low high = let e = spread v f in thousandth (v * f) q (omega (arith, low, e)) (omega (arith, high, e))

missing_runs : (running : Running) (values : Values) (areas x by : ℕ) → values.max_speed ≡ 255 → run running (alone (action.LimitScaled number.MaxSpeed by)) values areas x ≡ x
missing_runs running values areas x by e = acts_alone running values areas x (action.LimitScaled number.MaxSpeed by) ∙ rw e refl

pub chains_run : ChainsAreRun
unfolding run
chains_run = record {
  none = λ running values areas x. refl;
  first = λ running values areas x s ss e is. first_runs running values areas x s ss e is;
  later = λ running values areas x s ss e is. later_runs running values areas x s ss e is;
  factor = λ running values areas x c share h. factor_runs running values areas x c share h;
  limit = λ running values areas x l. acts_alone running values areas x (action.Limit l);
  scaled = λ values areas x by share h. scaled_runs values areas x by share h;
  missing = λ running values areas x by e. missing_runs running values areas x by e;
}
