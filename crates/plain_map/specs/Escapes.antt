-- Keys and values as they are written: some characters stand as escapes, `%20%` for a space (OPL, "OPL File Format Manual").
use Rattle.std.specs.Prelude.{ℕ, ◌+◌, ◌*◌, Bool, ◌&&◌, ◌||◌, List, [], ◌∷◌, ◌++◌, length, Option, Some, None, Result, Ok, Err, nat_lt, nat_le, encode_utf8, if◌then◌else◌}
use Rattle.std.specs.Char.{digit_value}
use Rattle.gh_base.specs.declared.kinds.PlainKind.{PlainKind}
use Rattle.gh_base.specs.declared.kinds.PlainKind.TheVariants.{Escape}
use Rattle.gh_base.specs.Parts.{parts_of}

infixl 10 ◌>>=◌
abbrev pub ◌>>=◌ : {A B K : Type 0} → Result A K → (A → Result B K) → Result B K
(Ok x) >>= f = f x
(Err kind) >>= f = Err kind

-- the number that these hexadecimal digits spell behind a number
abbrev pub hex_from : ℕ → List ℕ → Option ℕ
hex_from n [] = Some n
hex_from n (b ∷ bytes) = if nat_lt (digit_value b) 16 then hex_from (16 * n + digit_value b) bytes else None

-- a character of Unicode: below 0xd800, or from 0xe000 and below 0x110000
abbrev pub is_scalar : ℕ → Bool
is_scalar n = nat_lt n 55296 || (nat_le 57344 n && nat_lt n 1114112)

abbrev pub scalar_of : Option ℕ → Result ℕ PlainKind
scalar_of None = Err Escape
scalar_of (Some n) = if is_scalar n then Ok n else Err Escape

-- the character that one to six hexadecimal digits name
unfoldable pub scalar_at : List ℕ → Result ℕ PlainKind
scalar_at bytes = if nat_lt 0 (length bytes) && nat_le (length bytes) 6 then scalar_of (hex_from 0 bytes) else Err Escape

-- text and codes in turn, as they stand between percent signs
abbrev pub unescaped : List (List ℕ) → Result (List ℕ) PlainKind
unescaped [] = Err Escape
unescaped (plain ∷ []) = Ok plain
unescaped (plain ∷ code ∷ more) = do
  c ← scalar_at code
  rest ← unescaped more
  Ok (plain ++ (encode_utf8 c ++ rest))

-- the text that these bytes write
unfoldable pub text_at : List ℕ → Result (List ℕ) PlainKind
text_at bytes = unescaped (parts_of 37 bytes)
