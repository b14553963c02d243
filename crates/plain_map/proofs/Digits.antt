-- Digits of printed numbers: hexadecimal ones of a byte, and those behind a dot.
use Rattle.std.proofs.Common.{◌≡◌, ℕ, zero, suc, ◌+◌, ◌-◌, ◌*◌, ◌/◌, ◌%◌, ◌^◌, ◌<◌, ◌≤◌, [], ◌∷◌, true, false, eqb, refl, arith}
use Rattle.std.specs.Fmt.{digits, digit_glyph}
use Rattle.std.proofs.lemmas.Bool.{eq-eqb}
use Rattle.std.proofs.lemmas.Bool.Decides.{nat_tests}
use Rattle.std.proofs.Math.Nat.{pow-suc, pow-le-pow_right, one-le-pow, div-lt_iff_lt-mul, mod-lt}
use Rattle.plain_map.specs.Printing.{places_text, dotted}

is_zero : (n : ℕ) → n ≡ 0 → eqb n 0 ≡ true
is_zero n e = eq-eqb n 0 e

not_zero : (n : ℕ) → 0 < n → eqb n 0 ≡ false
not_zero n h = grind (arith, nat_tests)

-- a byte below 16 is one digit, another is two
pub hex_one : (b : ℕ) → b < 16 → digits 16 false b ≡ digit_glyph false b ∷ []
unfolding digits
hex_one b h =
    let none : b / 16 ≡ 0 = omega arith in
    let same : b % 16 ≡ b = omega arith in
    rw (is_zero (b / 16) none, same) refl

pub hex_two : (b : ℕ) → 16 ≤ b → b < 256 → digits 16 false b ≡ digit_glyph false (b / 16) ∷ digit_glyph false (b % 16) ∷ []
unfolding digits
hex_two b low high =
    let some : 0 < b / 16 = omega arith in
    let none : b / 16 / 16 ≡ 0 = omega arith in
    let same : b / 16 % 16 ≡ b / 16 = omega arith in
    rw (not_zero (b / 16) some, is_zero (b / 16 / 16) none, same) refl

-- no place is left
pub places_none : (k n : ℕ) → n ≡ 0 → places_text k n ≡ []
unfolding places_text
places_none zero n e = refl
places_none (suc k) n e = rw (is_zero n e) refl

-- the next place
pub places_more : (k places n : ℕ) → k ≡ places + 1 → 0 < n → places_text k n ≡ (48 + n / 10 ^ places) ∷ places_text places (n % 10 ^ places)
unfolding places_text
places_more zero places n e h = absurd (omega arith)
places_more (suc k) places n e h =
    let same : k ≡ places = omega arith in
    rw (not_zero n h, same) refl

-- a power of ten is at least one, and ten times the one before
pub power_step : (k places : ℕ) → k ≡ places + 1 → (0 < 10 ^ places) × (10 ^ k ≡ 10 ^ places * 10)
power_step k places e =
    let next : k ≡ suc places = omega arith in
    rw next (one-le-pow places 10 (omega arith), pow-suc 10 places)

-- a digit is below ten
pub digit_small : (k places n : ℕ) → k ≡ places + 1 → n < 10 ^ k → n / 10 ^ places < 10
digit_small k places n e h =
    let step = power_step k places e in
    let below : n < 10 ^ places * 10 = omega (arith, step.1) in
    (div-lt_iff_lt-mul step.0).1 (omega arith)

-- what is left is below the power
pub rest_small : (k places n : ℕ) → k ≡ places + 1 → n % 10 ^ places < 10 ^ places
rest_small k places n e = let some : 0 < 10 ^ places = (power_step k places e).0 in mod-lt n some

pub power_fits : (k : ℕ) → k ≤ 7 → 10 ^ k ≤ 10 ^ 7
power_fits k h = let ten : 0 < 10 = omega arith in pow-le-pow_right ten h

pub dotted_none : (n : ℕ) → n ≡ 0 → dotted (places_text 7 n) ≡ []
dotted_none n e = rw (places_none 7 n e) refl

pub dotted_some : (n : ℕ) → 0 < n → dotted (places_text 7 n) ≡ 46 ∷ places_text 7 n
dotted_some n h = rw (places_more 7 6 n (omega arith) h) refl

pub some_power : (k : ℕ) → 0 < 10 ^ k
some_power k = one-le-pow k 10 (omega arith)

-- where a number is not 0 and below a power of ten, the power is not the least
pub some_place : (k n : ℕ) → 0 < n → n < 10 ^ k → k ≡ k - 1 + 1
some_place zero n h small = absurd (omega arith)
some_place (suc k) n h small = omega arith
