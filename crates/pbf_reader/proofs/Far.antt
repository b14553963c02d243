-- A coordinate far out of range.
use Rattle.std.proofs.lemmas.Bool.Decides.{nat_tests}
use Rattle.std.proofs.Common.{◌≡◌, ℕ, ◌/◌, ◌^◌, ◌<◌, ◌≤◌, suc, ℤ, pos, negsuc, nat_abs, leb, true, false, Some, None, refl, arith}
use Rattle.std.specs.Int.{int_div_euclid}
use Rattle.pbf_wire.specs.Deltas.{within}

pub far_out : (z : ℤ) (most : ℕ) → most < 2 ^ 31 → 2 ^ 100 ≤ nat_abs z → None ≡ within most (int_div_euclid z (pos 100))
far_out (pos a) most small far = let test : leb (a / 100) most ≡ false = grind (arith, nat_tests) in rw test refl
far_out (negsuc a) most small far = let test : leb (suc (a / 100)) most ≡ false = grind (arith, nat_tests) in rw test refl

pub is_within : (z : ℤ) (most : ℕ) → nat_abs z ≤ most → Some z ≡ within most z
is_within z most h = let test : leb (nat_abs z) most ≡ true = grind (arith, nat_tests) in rw test refl

pub is_outside : (z : ℤ) (most : ℕ) → most < nat_abs z → None ≡ within most z
is_outside z most h = let test : leb (nat_abs z) most ≡ false = grind (arith, nat_tests) in rw test refl
