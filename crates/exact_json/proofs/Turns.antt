-- Recursions on a number, beside loops that count up.
use Rattle.std.proofs.Common.{◌≡◌, ℕ, suc, ◌+◌, ◌-◌, ◌<◌, ◌≤◌, List, Err, length, refl, arith}
use Rattle.exact_json.specs.Parsing.{Parser, turns}

-- a turn that is left
pub one_more : {K S A : Type 0} (late : K) (turn : (S → Parser K A) → S → Parser K A) (n at : ℕ) (s : S) (i : List ℕ) → at < n
    → turns late turn (n - at) s i ≡ turn (turns late turn (n - (at + 1))) s i
one_more late turn n at s i below = let e : n - at ≡ suc (n - (at + 1)) = omega arith in rw e refl

-- no turn is left
pub no_more : {K S A : Type 0} (late : K) (turn : (S → Parser K A) → S → Parser K A) (n at : ℕ) (s : S) (i : List ℕ) → n ≤ at
    → turns late turn (n - at) s i ≡ Err (length i, late)
no_more late turn n at s i done = let e : n - at ≡ 0 = omega arith in rw e refl
