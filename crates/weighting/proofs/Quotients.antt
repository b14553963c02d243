-- Quotients that are rounded up.
use Rattle.std.proofs.Common.{◌≡◌, ℕ, ◌+◌, ◌-◌, ◌*◌, ◌<◌, ◌≤◌, ◌^◌, arith}
use Rattle.std.specs.Int.{div_ceil}
use Rattle.std.proofs.Math.Nat.{add-mul, lt_of_mul-lt-mul_right, le-mul_of_pos_right}
use Rattle.std.proofs.lemmas.Grind.{div_ceil_times}
use Rattle.weighting.specs.Weights.{time_at}

-- the least number of parts of b that hold n
pub least_quotient : (n b q r : ℕ) → n ≤ q * b → r * b < n + b → r ≤ q
least_quotient n b q r holds least =
    let e : (q + 1) * b ≡ q * b + 1 * b = add-mul q 1 b in
    let more : r * b < (q + 1) * b = omega arith in
    let below : r < q + 1 = lt_of_mul-lt-mul_right b more in
    omega arith

-- a quotient rounded up is no more than what is divided
pub quotient_within : (n a : ℕ) → 0 < a → div_ceil n a ≤ n
quotient_within n a some = least_quotient n a n (div_ceil n a) (le-mul_of_pos_right n some) (div_ceil_times n a some).1

-- the least number that is great enough is the quotient
quotient_is : (n b q : ℕ) → 0 < b → n ≤ q * b → q * b < n + b → q ≡ div_ceil n b
quotient_is n b q some holds least =
    let t = div_ceil_times n b some in
    let above : div_ceil n b ≤ q = least_quotient n b q (div_ceil n b) holds t.1 in
    let below : q ≤ div_ceil n b = least_quotient n b (div_ceil n b) q t.0 least in
    omega arith

-- so is a number whose product, in a low and a high word, is great enough by less than the divisor
pub tested_quotient : (n b q product beyond : ℕ) → 0 < b → product + beyond * 2 ^ 64 ≡ q * b + 0 → beyond ≡ 0 → n ≤ product → product - n < b → q ≡ div_ceil n b
tested_quotient n b q product beyond some is low holds near =
    let e : product ≡ q * b = omega arith in
    let enough : n ≤ q * b = omega arith in
    let least : q * b < n + b = omega arith in
    quotient_is n b q some enough least

-- a priority of 1 divides nothing
pub plain_time : (speed mm : ℕ) → 0 < speed → div_ceil (3600 * mm) speed ≡ time_at speed 1000000 mm
unfolding time_at
plain_time speed mm some =
    let t = div_ceil_times (3600 * mm) speed some in
    let q = div_ceil (3600 * mm) speed in
    let enough : 3600 * mm ≤ q * speed = t.0 in
    let least : q * speed < 3600 * mm + speed = t.1 in
    let holds : 3600 * mm * 1000000 ≤ q * (speed * 1000000) = omega arith in
    let near : q * (speed * 1000000) < 3600 * mm * 1000000 + speed * 1000000 = omega arith in
    quotient_is (3600 * mm * 1000000) (speed * 1000000) q (omega arith) holds near
