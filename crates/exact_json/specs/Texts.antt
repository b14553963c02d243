-- Strings: runs of plain text and escapes, between quotes (RFC 8259, section 7).
use Rattle.std.specs.Prelude.{ℕ, ◌+◌, ◌-◌, ◌*◌, Bool, not, ◌||◌, ◌&&◌, List, [], ◌∷◌, ◌++◌, length, take, drop, Option, Some, None, Ok, Err, ◌==◌, nat_lt, nat_le, if◌then◌else◌, encode_utf8}
use Rattle.std.specs.List.{prefix_len}
use Rattle.std.specs.Char.{digit_value}
use Rattle.std.specs.Str.Lossy.{utf8_valid_len}
use Rattle.gh_base.specs.declared.kinds.JsonKind.TheVariants.{End, Byte, Utf8, Escape}
use Rattle.exact_json.specs.Parsing.{◌>>=◌, ◌>>◌, pure, refuse, front, turns, left, fault}
use Rattle.exact_json.specs.Tokens.{Reader, take_byte}

-- RFC 8259, 7, unescaped: no quote, backslash or control character
abbrev pub is_plain : ℕ → Bool
is_plain b = nat_le 32 b && not (b == 34) && not (b == 92)

-- RFC 8259, 7 and 8.1: the text up to one of those, in UTF-8
unfoldable pub plain : Reader (List ℕ)
plain i =
    let run = take (prefix_len is_plain i) i in
    if utf8_valid_len run == length run then Ok (run, drop (prefix_len is_plain i) i) else Err (length i - utf8_valid_len run, Utf8)

-- RFC 8259, 7: a hexadecimal digit behind a number
abbrev pub hex : ℕ → Reader ℕ
hex n [] = Err (0, End)
hex n (b ∷ bytes) = if nat_lt (digit_value b) 16 then Ok (16 * n + digit_value b, bytes) else Err (length bytes + 1, Byte)

-- RFC 8259, 7: four hexadecimal digits
unfoldable pub four : Reader ℕ
four = do
  a ← hex 0
  b ← hex a
  c ← hex b
  hex c

-- RFC 8259, 7: the first half of a surrogate pair
abbrev pub is_high : ℕ → Bool
is_high n = nat_le 55296 n && nat_lt n 56320

-- RFC 8259, 7: the second half of a surrogate pair
abbrev pub is_low : ℕ → Bool
is_low n = nat_le 56320 n && nat_lt n 57344

-- RFC 8259, 7: a byte of the second escape of two; where there is another, the first stands alone
abbrev pub second : ℕ → ℕ → Reader (Unit {0})
second start c [] = Err (0, End)
second start c (b ∷ bytes) = if b == c then Ok (tt, bytes) else Err (start, Escape)

-- RFC 8259, 7: the character of a surrogate pair, behind its first half
unfoldable pub low : ℕ → ℕ → Reader ℕ
low start high = do
  second start 92
  second start 117
  n ← four
  if is_low n then pure (65536 + (high - 55296) * 1024 + (n - 56320)) else fault start Escape

-- RFC 8259, 7: the character of a \u escape, behind the u; the backslash stood where start bytes were left
unfoldable pub unicode : ℕ → Reader ℕ
unicode start = do
  n ← four
  if is_high n then low start n else if is_low n then fault start Escape else pure n

-- RFC 8259, 7: the character of an escape of two bytes
abbrev pub named : ℕ → Option ℕ
named b =
    if b == 34 || b == 92 || b == 47 then Some b
    else if b == 98 then Some 8
    else if b == 102 then Some 12
    else if b == 110 then Some 10
    else if b == 114 then Some 13
    else if b == 116 then Some 9
    else None

-- RFC 8259, 7: takes the letter of an escape of two bytes
abbrev pub escape_named : Option ℕ → Reader ℕ
escape_named None = refuse Byte
escape_named (Some c) = take_byte >> pure c

-- RFC 8259, 7: an escape by the byte behind its backslash
abbrev pub escape_by : ℕ → Option ℕ → Reader ℕ
escape_by start None = refuse End
escape_by start (Some b) = if b == 117 then (take_byte >> unicode start) else escape_named (named b)

-- RFC 8259, 7, char: the character of an escape, behind its backslash
unfoldable pub escape : ℕ → Reader ℕ
escape start = λ i. escape_by start (front i) i

-- RFC 8259, 7: a plain run, and the quote or an escape behind it
abbrev pub text_turn : (List ℕ → Reader (List ℕ)) → List ℕ → Reader (List ℕ)
text_turn go_on out = do
  run ← plain
  start ← left
  b ← take_byte
  (if b == 34 then pure (out ++ run)
      else if b == 92 then (escape start >>= λ c. go_on ((out ++ run) ++ encode_utf8 c))
      else fault start Byte)

-- RFC 8259, 7, string: behind the first quote
unfoldable pub text : Reader (List ℕ)
text = λ i. turns End text_turn (length i) [] i
