-- Decimals, and the one that digits, places and an exponent make (RFC 8259, section 6).
use Rattle.std.specs.Prelude.{ℕ, ◌+◌, ◌-◌, ◌*◌, ◌^◌, ◌<◌, ◌≤◌, Bool, true, false, ◌&&◌, IsTrue, List, [], ◌∷◌, length, Option, Some, None, nat_lt, nat_le, if◌then◌else◌}

infixl 10 ◌>>=◌
abbrev ◌>>=◌ : {A B : Type 0} → Option A → (A → Option B) → Option B
(Some x) >>= f = f x
None >>= f = None

-- RFC 8259, 6: a number is its digits over ten to the power of its places, and maybe negative
pub record DecimalValue : Type 0 where
  pub negative : Bool
  pub digits : ℕ
  pub places : ℕ

-- the digits of a decimal stay below this
abbrev pub limit : ℕ
limit = 1000000000000000000

-- RFC 8259, 6, within this project's bounds: at most eighteen digits and places, and no negative zero
abbrev pub IsExact : DecimalValue → Type 0
IsExact d = (d.digits < 10 ^ 18) × (d.places ≤ 18) × (IsTrue d.negative → 0 < d.digits)

-- RFC 8259, 6: the number that a number and the digits behind it spell
abbrev pub spelled : ℕ → List ℕ → ℕ
spelled n [] = n
spelled n (b ∷ bytes) = spelled (10 * n + (b - 48)) bytes

-- a number, where it is below the limit
unfoldable pub below : ℕ → Option ℕ
below n = if nat_lt n limit then Some n else None

-- RFC 8259, 6: the exponent, of at most four digits
unfoldable pub exponent_of : List ℕ → Option ℕ
exponent_of digits = if nat_le (length digits) 4 then below (spelled 0 digits) else None

-- the decimal of this sign, these digits and places, where it is one
abbrev pub exactly : Bool → ℕ → ℕ → Option DecimalValue
exactly negative n places = if nat_le places 18 then Some (record { negative = negative && nat_lt 0 n; digits = n; places = places }) else None

-- RFC 8259, 6: an exponent eats places, and then appends zeros; a negative one (true) adds places
abbrev pub scaled : Bool → ℕ → ℕ → Bool → ℕ → Option DecimalValue
scaled negative n places true e = exactly negative n (places + e)
scaled negative n places false e =
    if nat_le e places then exactly negative n (places - e)
    else (below (n * 10 ^ (e - places)) >>= λ m. exactly negative m 0)

-- RFC 8259, 6: the decimal of a sign, the digits before and behind the point, the exponent's sign and its digits
unfoldable pub decimal_of : Bool → List ℕ → List ℕ → Bool → List ℕ → Option DecimalValue
decimal_of negative whole fraction down exponent = do
  n ← below (spelled 0 whole)
  m ← below (spelled n fraction)
  e ← exponent_of exponent
  scaled negative m (length fraction) down e
