-- Recursions on a number, beside loops that count up and calls that count down.
use Rattle.std.proofs.Common.{◌≡◌, ℕ, zero, suc, ◌+◌, ◌-◌, ◌<◌, List, Err, refl, arith}
use Rattle.gh_base.specs.declared.kinds.ModelKind.TheVariants.{Condition}
use Rattle.model_eval.specs.declared.conditions.Test.{Test}
use Rattle.model_eval.specs.declared.conditions.Test.TheVariants as t
use Rattle.model_eval.specs.declared.custom_model.Area.{Area}
use Rattle.model_texts.specs.Tokens.{ahead}
use Rattle.model_texts.specs.Conditions.{test_at, alternative, nots}

pub one_not : (x : Test) (n : ℕ) → t.Not (nots n x) ≡ nots (n + 1) x
one_not x n = let e : n + 1 ≡ suc n = omega arith in rw e refl

pub deeper : (areas : List Area) (n : ℕ) (i : List ℕ) → 0 < n → test_at areas n i ≡ alternative areas (test_at areas (n - 1)) i
unfolding test_at
deeper areas zero i some = absurd (omega arith)
deeper areas (suc n) i some = let e : suc n - 1 ≡ n = omega arith in rw e refl

pub deepest : (areas : List Area) (n : ℕ) (i : List ℕ) → n ≡ 0 → test_at areas n i ≡ Err (ahead i, Condition)
unfolding test_at
deepest areas n i none = rw none refl
