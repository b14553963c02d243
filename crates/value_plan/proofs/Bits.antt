-- Bits of a number: some of them replaced, and the others as they were.
use Rattle.std.proofs.Common.{◌≡◌, ℕ, ◌+◌, ◌-◌, ◌*◌, ◌/◌, ◌%◌, ◌^◌, ◌<◌, ◌≤◌, sym, ap, ◌∙◌, subst, arith}
use Rattle.std.proofs.lemmas.Nat.{pow_pos, pow-add, shr-shr, shr_split, shr_high, shr_below, mod_low, mod_below, mod-pow-add, field_of, mul-add-lt, shl_whole, one_shl}

-- a number with other bits from a on, b of them
abbrev pub with_bits : ℕ → ℕ → ℕ → ℕ → ℕ
with_bits n a b value = n - n / 2 ^ a % 2 ^ b * 2 ^ a + value * 2 ^ a

swap_part : (n high old low value p q : ℕ) → n ≡ (high * q + old) * p + low → n - old * p + value * p ≡ (high * q + value) * p + low
swap_part n high old low value p q e = omega arith

parts : (n a b : ℕ) → n ≡ (n / 2 ^ a / 2 ^ b * 2 ^ b + n / 2 ^ a % 2 ^ b) * 2 ^ a + n % 2 ^ a
parts n a b = sym (ap (λ (m : ℕ). m * 2 ^ a + n % 2 ^ a) (shr_split (n / 2 ^ a) b) ∙ shr_split n a)

-- its parts: what is above, the bits, what is below
with_bits_parts : (n a b value : ℕ) → with_bits n a b value ≡ (n / 2 ^ a / 2 ^ b * 2 ^ b + value) * 2 ^ a + n % 2 ^ a
with_bits_parts n a b value = swap_part n (n / 2 ^ a / 2 ^ b) (n / 2 ^ a % 2 ^ b) (n % 2 ^ a) value (2 ^ a) (2 ^ b) (parts n a b)

rest_below : (n a : ℕ) → n % 2 ^ a < 2 ^ a
rest_below n a = mod_below n (2 ^ a) (pow_pos a)

from_a : (n a b value : ℕ) → with_bits n a b value / 2 ^ a ≡ n / 2 ^ a / 2 ^ b * 2 ^ b + value
from_a n a b value = ap (λ (m : ℕ). m / 2 ^ a) (with_bits_parts n a b value) ∙ shr_high (n / 2 ^ a / 2 ^ b * 2 ^ b + value) a (n % 2 ^ a) (rest_below n a)

pub bits_there : (n a b value : ℕ) → value < 2 ^ b → with_bits n a b value / 2 ^ a % 2 ^ b ≡ value
bits_there n a b value fits = ap (λ (m : ℕ). m % 2 ^ b) (from_a n a b value) ∙ mod_low (n / 2 ^ a / 2 ^ b) b value fits

pub bits_above : (n a b value : ℕ) → value < 2 ^ b → with_bits n a b value / 2 ^ a / 2 ^ b ≡ n / 2 ^ a / 2 ^ b
bits_above n a b value fits = ap (λ (m : ℕ). m / 2 ^ b) (from_a n a b value) ∙ shr_high (n / 2 ^ a / 2 ^ b) b value fits

pub bits_below : (n a b value : ℕ) → with_bits n a b value % 2 ^ a ≡ n % 2 ^ a
bits_below n a b value = ap (λ (m : ℕ). m % 2 ^ a) (with_bits_parts n a b value) ∙ mod_low (n / 2 ^ a / 2 ^ b * 2 ^ b + value) a (n % 2 ^ a) (rest_below n a)

-- it fits as many bits as the number did
fits_more : (n a b c value : ℕ) → value < 2 ^ b → n < 2 ^ (c + (a + b)) → with_bits n a b value < 2 ^ a * (2 ^ b * 2 ^ c)
fits_more n a b c value fits l =
    let high : n / 2 ^ a / 2 ^ b < 2 ^ c = subst (λ (m : ℕ). m < 2 ^ c) (sym (shr-shr n a b)) (shr_below n c (a + b) l) in
    let middle : n / 2 ^ a / 2 ^ b * 2 ^ b + value < 2 ^ b * 2 ^ c = mul-add-lt (n / 2 ^ a / 2 ^ b) (2 ^ b) value (2 ^ c) high fits in
    subst (λ (m : ℕ). m < 2 ^ a * (2 ^ b * 2 ^ c)) (sym (with_bits_parts n a b value)) (mul-add-lt (n / 2 ^ a / 2 ^ b * 2 ^ b + value) (2 ^ a) (n % 2 ^ a) (2 ^ b * 2 ^ c) middle (rest_below n a))

pub with_bits_fits : (n a b value : ℕ) → value < 2 ^ b → a + b ≤ 128 → n < 2 ^ 128 → with_bits n a b value < 2 ^ 128
with_bits_fits n a b value fits inside l =
    let c = 128 - (a + b) in
    let place : c + (a + b) ≡ 128 = omega arith in
    let place' : a + (b + c) ≡ 128 = omega arith in
    let wide : n < 2 ^ (c + (a + b)) = subst (λ (m : ℕ). n < 2 ^ m) (sym place) l in
    let whole : 2 ^ a * (2 ^ b * 2 ^ c) ≡ 2 ^ 128 = ap (λ (m : ℕ). 2 ^ a * m) (sym (pow-add 2 b c)) ∙ (sym (pow-add 2 a (b + c)) ∙ ap (λ (m : ℕ). 2 ^ m) place') in
    subst (λ (m : ℕ). with_bits n a b value < m) whole (fits_more n a b c value fits wide)

-- the old bits in place are no more than the number
pub old_le : (n a b : ℕ) → n / 2 ^ a % 2 ^ b * 2 ^ a ≤ n
old_le n a b = part (n / 2 ^ a / 2 ^ b) (n / 2 ^ a % 2 ^ b) (n % 2 ^ a) (2 ^ a) (2 ^ b) n (parts n a b)
  where
    part : (high old low p q n : ℕ) → n ≡ (high * q + old) * p + low → old * p ≤ n
    part high old low p q n e = omega arith

-- a value in place, as it is shifted there
pub shifted : (value a b : ℕ) → value < 2 ^ b → a + b ≤ 128 → (value * 2 ^ a) % 2 ^ 128 ≡ value * 2 ^ a
shifted value a b fits inside = shl_whole value b a 128 fits (omega arith)

-- as the words are shifted and cut at 128 bits
pub made : (n a b value : ℕ) → b < 128 → value < 2 ^ b → a + b ≤ 128
    → n - n / 2 ^ a % (1 * 2 ^ b % 2 ^ 128) * 2 ^ a % 2 ^ 128 + value * 2 ^ a % 2 ^ 128 ≡ with_bits n a b value
made n a b value few fits inside =
    ap (λ (m : ℕ). n - n / 2 ^ a % m * 2 ^ a % 2 ^ 128 + value * 2 ^ a % 2 ^ 128) (one_shl b 128 few)
    ∙ (ap (λ (m : ℕ). n - m + value * 2 ^ a % 2 ^ 128) (shifted (n / 2 ^ a % 2 ^ b) a b (rest_below (n / 2 ^ a) b) inside)
    ∙ ap (λ (m : ℕ). n - n / 2 ^ a % 2 ^ b * 2 ^ a + m) (shifted value a b fits inside))

-- numbers that are one above some bits are one there
pub same_above : (m n a b q w : ℕ) → a + b ≤ q → m / 2 ^ a / 2 ^ b ≡ n / 2 ^ a / 2 ^ b → m / 2 ^ q % 2 ^ w ≡ n / 2 ^ q % 2 ^ w
same_above m n a b q w l e =
    let d = q - (a + b) in
    let place : a + b + d ≡ q = omega arith in
    ap (λ (k : ℕ). k % 2 ^ w) (sym (moved m d place) ∙ (ap (λ (k : ℕ). k / 2 ^ d) e ∙ moved n d place))
  where
    moved : (k d : ℕ) → a + b + d ≡ q → k / 2 ^ a / 2 ^ b / 2 ^ d ≡ k / 2 ^ q
    moved k d place = ap (λ (x : ℕ). x / 2 ^ d) (shr-shr k a b) ∙ (shr-shr k (a + b) d ∙ ap (λ (x : ℕ). k / 2 ^ x) place)

fewer : (n a c : ℕ) → c ≤ a → n % 2 ^ a % 2 ^ c ≡ n % 2 ^ c
fewer n a c l =
    let j = a - c in
    let place : j + c ≡ a = omega arith in
    ap (λ (x : ℕ). n % 2 ^ x % 2 ^ c) (sym place) ∙ (ap (λ (x : ℕ). x % 2 ^ c) (mod-pow-add n j c) ∙ mod_low (n / 2 ^ c % 2 ^ j) c (n % 2 ^ c) (rest_below n c))

-- and below others
pub same_below : (m n a q w : ℕ) → q + w ≤ a → m % 2 ^ a ≡ n % 2 ^ a → m / 2 ^ q % 2 ^ w ≡ n / 2 ^ q % 2 ^ w
same_below m n a q w l e =
    sym (field m) ∙ (ap (λ (x : ℕ). x % 2 ^ (w + q) / 2 ^ q) e ∙ field n)
  where
    field : (k : ℕ) → k % 2 ^ a % 2 ^ (w + q) / 2 ^ q ≡ k / 2 ^ q % 2 ^ w
    field k = ap (λ (x : ℕ). x / 2 ^ q) (fewer k a (w + q) (omega arith)) ∙ field_of k w q

-- four words are their number
pub four_words : (n w0 w1 w2 w3 : ℕ) → n < 2 ^ 128 → w0 ≡ n % 2 ^ 32 → w1 ≡ n / 2 ^ 32 % 2 ^ 32 → w2 ≡ n / 2 ^ 64 % 2 ^ 32 → w3 ≡ n / 2 ^ 96 % 2 ^ 32
    → w0 + 2 ^ 32 * w1 + 2 ^ 64 * w2 + 2 ^ 96 * w3 ≡ n
four_words n w0 w1 w2 w3 l e0 e1 e2 e3 =
    let s0 = shr_split n 32 in
    let s1 = shr_split (n / 2 ^ 32) 32 in
    let s2 = shr_split (n / 2 ^ 64) 32 in
    let d1 = shr-shr n 32 32 in
    let d2 = shr-shr n 64 32 in
    let top : n / 2 ^ 96 < 2 ^ 32 = shr_below n 32 96 l in
    let whole : n / 2 ^ 96 % 2 ^ 32 ≡ n / 2 ^ 96 = omega arith in
    omega arith
