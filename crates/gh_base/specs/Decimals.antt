-- Numbers in texts: natural numbers, ids and decimals, as whole texts. All are exact.
use Rattle.std.specs.Prelude.{ℕ, ◌+◌, ◌-◌, ◌*◌, ◌^◌, ◌<◌, ◌≤◌, ◌++◌, ℤ, pos, neg_ℤ, Bool, false, ◌&&◌, List, [], ◌∷◌, length, take, drop, Option, Some, None, IsSome, ◌==◌, nat_lt, nat_le, position, if◌then◌else◌}
use Rattle.std.specs.Char.{is_ascii_digit}

infixl 10 ◌>>=◌
abbrev pub ◌>>=◌ : {A B : Type 0} → Option A → (A → Option B) → Option B
(Some x) >>= f = f x
None >>= f = None

-- the number that these digits spell behind a number
abbrev pub digits_from : ℕ → List ℕ → Option ℕ
digits_from n [] = Some n
digits_from n (b ∷ bytes) = if is_ascii_digit b then digits_from (10 * n + (b - 48)) bytes else None

-- a natural number: one to `most` digits
unfoldable pub natural_of : ℕ → List ℕ → Option ℕ
natural_of most bytes = if nat_lt 0 (length bytes) && nat_le (length bytes) most then digits_from 0 bytes else None

-- a number with its sign
abbrev pub signed : Bool → ℕ → ℤ
signed minus n = if minus then neg_ℤ (pos n) else pos n

abbrev pub is_minus : List ℕ → Bool
is_minus [] = false
is_minus (b ∷ bytes) = b == 45

-- the bytes behind a minus, or all
abbrev pub magnitude : List ℕ → List ℕ
magnitude bytes = if is_minus bytes then drop 1 bytes else bytes

-- an id: maybe a minus, and one to eighteen digits
unfoldable pub id_of : List ℕ → Option ℤ
id_of bytes = do
  n ← natural_of 18 (magnitude bytes)
  Some (signed (is_minus bytes) n)

-- one to nine digits, and behind a dot, if there is one, one to `places` more: in units of the last place
unfoldable pub split_at_dot : ℕ → List ℕ → Option ℕ → Option ℕ
split_at_dot places bytes None = do
  n ← natural_of 9 bytes
  Some (n * 10 ^ places)
split_at_dot places bytes (Some dot) = do
  n ← natural_of 9 (take dot bytes)
  m ← natural_of places (drop (dot + 1) bytes)
  Some (n * 10 ^ places + m * 10 ^ (places - length (drop (dot + 1) bytes)))

-- a decimal with at most so many places: maybe a minus, one to nine digits, and maybe a dot and more digits
unfoldable pub decimal_of : ℕ → List ℕ → Option ℤ
decimal_of places bytes = do
  n ← split_at_dot places (magnitude bytes) (position (λ b. b == 46) (magnitude bytes))
  Some (signed (is_minus bytes) n)

-- some text that begins with these bytes is a decimal
abbrev pub CanContinue : ℕ → List ℕ → Type 0
CanContinue places front = (rest : List ℕ) × IsSome (decimal_of places (front ++ rest))

-- a text's longest front that can still be continued to a decimal, by its length
pub record IsLongestFront (places : ℕ) (text : List ℕ) (byte : ℕ) : Type 0 where
  pub within : byte ≤ length text
  pub goes_on : CanContinue places (take byte text)
  pub stuck : (n : ℕ) → byte < n → n ≤ length text → CanContinue places (take n text) → ⊥
