-- The square root rounded down is one number, and it counts up.
use Rattle.std.proofs.Common.{◌≡◌, ℕ, zero, suc, ◌+◌, ◌*◌, ◌-◌, ◌/◌, ◌≤◌, ◌<◌, ℤ, pos, negsuc, cond, inl, inr, arith, leb}
use Rattle.std.proofs.lemmas.Bool.{cases_order, cases_lt}
use Rattle.std.proofs.lemmas.Bool.Decides.{nat_tests}
use Rattle.std.proofs.lemmas.Nat.{mul-lt, mul-le, div_below}
use Rattle.std.specs.Int.{int_div_euclid}
use Rattle.std.specs.Int.RustNames.{unsigned_abs}
use Rattle.geo_math.specs.Lengths.{IsRoot, root}

step : (n r : ℕ) → IsRoot n r → IsRoot (suc n) (cond (leb ((r + 1) * (r + 1)) (suc n)) (r + 1) r)
step n r h =
    let grows : (r + 1) * (r + 1) < (r + 1 + 1) * (r + 1 + 1) = mul-lt (r + 1) (r + 1) (r + 1 + 1) (r + 1 + 1) (omega arith) (omega arith) in
    elim (cases_lt (suc n) ((r + 1) * (r + 1))) [
      | inl p ↦ let low = h.below in let high = h.above in record { below = grind (arith, nat_tests); above = grind (arith, nat_tests) }
      | inr p ↦ let low = h.below in let high = h.above in record { below = grind (arith, nat_tests); above = grind (arith, nat_tests) }
    ]

pub root_is : (n : ℕ) → IsRoot n (root n)
unfolding root
root_is zero = record { below = omega arith; above = omega arith }
root_is (suc n) = step n (root n) (root_is n)

apart : (n r s : ℕ) → r < s → n < (r + 1) * (r + 1) → s * s ≤ n → ⊥
apart n r s p above below = let e = mul-le (r + 1) (r + 1) s s (omega arith) (omega arith) in omega arith

pub root_of : (n r : ℕ) → r * r ≤ n → n < (r + 1) * (r + 1) → r ≡ root n
root_of n r below above =
    let h = root_is n in
    elim (cases_order r (root n)) [
      | inl e ↦ e
      | inr q ↦ elim q [
        | inl p ↦ absurd (apart n r (root n) p above h.below)
        | inr p ↦ absurd (apart n (root n) r p h.above below)
      ]
    ]

pub scaled_small : (d m : ℕ) → d ≤ 3600000000 → d * (3240000000000000000 - 4 * (m * m)) / (3240000000000000000 + m * m) ≤ 3600000000
scaled_small d m h =
    let top = mul-le d (3240000000000000000 - 4 * (m * m)) 3600000000 (3240000000000000000 + m * m) h (omega arith) in
    let low : d * (3240000000000000000 - 4 * (m * m)) < 3600000001 * (3240000000000000000 + m * m) = omega arith in
    let r = div_below (d * (3240000000000000000 - 4 * (m * m))) (3240000000000000000 + m * m) 3600000001 (omega arith) low in
    omega arith

halved : (n : ℕ) → n ≤ 1800000000 → n / 2 ≤ 900000000
halved n h = omega arith

pub middle_small : (z : ℤ) → unsigned_abs z ≤ 1800000000 → unsigned_abs (int_div_euclid z (pos 2)) ≤ 900000000
middle_small (pos n) h = halved n h
middle_small (negsuc n) h = omega arith

-- a root whose square is at most 162 * 10^23 is below 5 * 10^12, since 25 * 10^24 is above that
pub diagonal_small : (r e n : ℕ) → e ≤ 3600000000 → n ≤ 1800000000 → r * r ≤ (e * e + n * n) * 1000000 → r * 111194927 / 10000000000 < 68719476736
diagonal_small r e n he hn below =
    let far = mul-le e e 3600000000 3600000000 he he in
    let up = mul-le n n 1800000000 1800000000 hn hn in
    let small : r < 5000000000000 =
    elim (cases_lt r 5000000000000) [
      | inl p ↦ p
      | inr p ↦ let top = mul-le 5000000000000 5000000000000 r r p p in absurd (omega arith)
    ]
    in
    div_below (r * 111194927) 10000000000 68719476736 (omega arith) (omega arith)

pub area_fits : (a : ℕ) → a ≤ 12960000000000000000 → a * a < 340282366920938463463374607431768211456
area_fits a h = let whole = mul-le a a 12960000000000000000 12960000000000000000 h h in omega arith
