-- Numbers that pass the limit stay past it.
use Rattle.std.proofs.Common.{◌≡◌, ℕ, suc, ◌+◌, ◌-◌, ◌*◌, ◌^◌, ◌<◌, ◌≤◌, List, [], ◌∷◌, Some, None, get_or, drop, drop-cons, drop_of_length-le, length, arith}
use Rattle.std.proofs.Math.Nat.{pow-succ', pow-le-pow_right, mul-le-mul_left}
use Rattle.std.proofs.lemmas.Bool.Decides.{nat_tests}
use Rattle.exact_json.specs.Decimals.{spelled, below, limit}

pub ten_pow : (n : ℕ) → 0 < 10 ^ n
ten_pow n =
    let ten : 0 < 10 = omega arith in
    let least : 0 ≤ n = omega arith in
    let more : 10 ^ 0 ≤ 10 ^ n = pow-le-pow_right ten least in
    omega arith

-- more digits make no smaller number
pub grows : (bytes : List ℕ) (n : ℕ) → n ≤ spelled n bytes
grows [] n = omega arith
grows (b ∷ bytes) n = let h = grows bytes (10 * n + (b - 48)) in omega (arith, h)

past : (n : ℕ) → limit ≤ n → below n ≡ None
unfolding below
past n h = grind (arith, nat_tests)

-- a number below the limit
pub kept : (n : ℕ) → n < 10 ^ 18 → below n ≡ Some n
unfolding below
kept n h = grind (arith, nat_tests)

-- no digit is left
pub kept_all : (n at : ℕ) (bytes : List ℕ) → length bytes ≤ at → n < 10 ^ 18 → below (spelled n (drop at bytes)) ≡ Some n
kept_all n at bytes done small = rw (drop_of_length-le bytes done) (kept n small)

past_digit : (n b : ℕ) (bytes : List ℕ) → limit ≤ 10 * n + (b - 48) → below (spelled n (b ∷ bytes)) ≡ None
past_digit n b bytes h = let g = grows bytes (10 * n + (b - 48)) in past (spelled (10 * n + (b - 48)) bytes) (omega (arith, g))

-- a digit that is too many
pub too_long : (n at : ℕ) (bytes : List ℕ) → at < length bytes → limit ≤ 10 * n + (get_or bytes at 0 - 48) → below (spelled n (drop at bytes)) ≡ None
too_long n at bytes h wide = rw (drop-cons bytes at 0 h) (past_digit n (get_or bytes at 0) (drop (suc at) bytes) wide)

pub one_zero : (n at k : ℕ) → at < n → k * 10 ^ (n - at) ≡ (k * 10) * 10 ^ (n - (at + 1))
one_zero n at k h =
    let e : n - at ≡ suc (n - (at + 1)) = omega arith in
    let power : 10 ^ suc (n - (at + 1)) ≡ 10 * 10 ^ (n - (at + 1)) = pow-succ' 10 (n - (at + 1)) in
    let c = 10 ^ (n - (at + 1)) in
    let spread : k * (10 * c) ≡ (k * 10) * c = grind arith in
    rw (e, power) spread

pub no_zero : (n at k : ℕ) → n ≤ at → k * 10 ^ (n - at) ≡ k
no_zero n at k h = let e : n - at ≡ 0 = omega arith in rw e (omega arith)

-- a front that has too many zeros behind it
pub too_many : (n at k : ℕ) → at < n → limit ≤ 10 * k → below (k * 10 ^ (n - at)) ≡ None
too_many n at k h wide =
    let same = one_zero n at k h in
    let more : (k * 10) * 1 ≤ (k * 10) * 10 ^ (n - (at + 1)) = mul-le-mul_left (k * 10) (ten_pow (n - (at + 1))) in
    rw same (past ((k * 10) * 10 ^ (n - (at + 1))) (omega (arith, more)))
