-- Numbers: a sign, digits, a fraction and an exponent (RFC 8259, section 6).
use Rattle.std.specs.Prelude.{◌≡◌, ℕ, Bool, true, false, ◌||◌, List, [], ◌∷◌, length, take, drop, Option, Some, None, Result, Ok, Err, ◌==◌, nat_lt, if◌then◌else◌}
use Rattle.std.specs.List.{prefix_len}
use Rattle.std.specs.Char.{is_ascii_digit}
use denote.Ref.{Bor}
use Rattle.gh_base.specs.declared.kinds.JsonKind.{JsonKind}
use Rattle.gh_base.specs.declared.kinds.JsonKind.TheVariants.{End, Byte, TooLong}
use Rattle.exact_json.specs.declared.stop.Stop.{Stop}
use Rattle.exact_json.specs.Parsing.{Outcome, Stops, ◌>>=◌, ◌>>◌, pure, refuse, front, eat, left, fault}
use Rattle.exact_json.specs.Tokens.{Reader, take_byte}
use Rattle.exact_json.specs.Decimals.{DecimalValue, decimal_of}

-- RFC 8259, 6: a minus or a digit
abbrev pub begins_number : ℕ → Bool
begins_number b = b == 45 || is_ascii_digit b

-- RFC 8259, 6: one digit or more
unfoldable pub digits : Reader (List ℕ)
digits i =
    let n = prefix_len is_ascii_digit i in
    if nat_lt 0 n then Ok (take n i, drop n i) else Err (length i, if nat_lt 0 (length i) then Byte else End)

-- RFC 8259, 6, int, by its first byte
abbrev pub whole_by : Option ℕ → Reader (List ℕ)
whole_by None = refuse End
whole_by (Some b) = if b == 48 then (take_byte >> pure (48 ∷ [])) else digits

-- RFC 8259, 6, int: a zero alone, or digits that begin with another
unfoldable pub whole : Reader (List ℕ)
whole = λ i. whole_by (front i) i

-- RFC 8259, 6, frac: a point and digits, or nothing
unfoldable pub fraction : Reader (List ℕ)
fraction = do
  is_there ← eat 46
  if is_there then digits else pure []

-- RFC 8259, 6, e: whether e or E comes
unfoldable pub letter : Reader Bool
letter = do
  is_small ← eat 101
  if is_small then pure true else eat 69

-- RFC 8259, 6: a minus, which is told, or maybe a plus
unfoldable pub minus : Reader Bool
minus = do
  is_minus ← eat 45
  if is_minus then pure true else (eat 43 >> pure false)

-- RFC 8259, 6, exp: whether it is negative, and its digits
unfoldable pub exponent : Reader (Bool × List ℕ)
exponent = do
  is_there ← letter
  if is_there then (do down ← minus; e ← digits; pure (down, e)) else pure (false, [])

-- as `Reads`, of a sign and a part of the text
abbrev pub ExponentReads : Outcome JsonKind (Bool × List ℕ) → Result (Bool × Bor (List ℕ)) (Stop JsonKind) → List ℕ → Type 0
ExponentReads outcome (Ok a) new = outcome ≡ Ok ((a.0, a.1.now), new)
ExponentReads outcome (Err e) new = Stops outcome e

-- a decimal, or TooLong where the number began
abbrev pub decided : ℕ → Option DecimalValue → Reader DecimalValue
decided start None = fault start TooLong
decided start (Some d) = pure d

-- RFC 8259, 6, number; it is judged at its end
unfoldable pub number : Reader DecimalValue
number = do
  start ← left
  negative ← eat 45
  a ← whole
  b ← fraction
  e ← exponent
  decided start (decimal_of negative a b e.0 e.1)
