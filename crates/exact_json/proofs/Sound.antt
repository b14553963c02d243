-- What a decimal's type says, as a test.
use Rattle.std.proofs.Common.{◌≡◌, ℕ, ◌<◌, Bool, true, false, ◌||◌, not, IsTrue, nat_lt, nat_le, refl, arith}
use Rattle.std.proofs.lemmas.Bool.Decides.{nat_tests}
use Rattle.exact_json.specs.Decimals.{DecimalValue, IsExact, limit}
use Rattle.exact_json.specs.Again.{is_exact}

signed : (s : Bool) (n : ℕ) → (IsTrue s → 0 < n) → not s || nat_lt 0 n ≡ true
signed false n h = refl
signed true n h = let some = h refl in grind (arith, nat_tests)

pub exact_test : (d : DecimalValue) → IsExact d → is_exact d ≡ true
exact_test d h =
    let a : nat_lt d.digits limit ≡ true = let l = h.0 in grind (arith, nat_tests) in
    let b : nat_le d.places 18 ≡ true = let l = h.1 in grind (arith, nat_tests) in
    rw (a, b, signed d.negative d.digits h.2) refl
