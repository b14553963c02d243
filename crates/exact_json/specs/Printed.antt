-- The text of a value (RFC 8259): no spaces, no exponents.
use Rattle.std.specs.Prelude.{ℕ, zero, suc, ◌+◌, ◌/◌, ◌%◌, ◌^◌, ◌||◌, List, [], ◌∷◌, ◌++◌, ◌==◌, nat_lt, if◌then◌else◌, codes, flat_map, encode_utf8}
use Rattle.std.specs.Str.{chars}
use Rattle.std.specs.Fmt.{decimal}
use Rattle.exact_json.specs.Decimals.{DecimalValue}
use Rattle.exact_json.specs.declared.value.Json.{Json}
use Rattle.exact_json.specs.declared.value.Member.{Member}
use Rattle.exact_json.specs.declared.value.Json.TheOpen.{Json-F, Member-F}
use Rattle.exact_json.specs.declared.value.Json.TheFolds.{fold-Json, fold-Member}

-- RFC 8259, 2, value-separator: a comma before each
abbrev pub joined_rest : List (List ℕ) → List ℕ
joined_rest [] = []
joined_rest (t ∷ ts) = 44 ∷ (t ++ joined_rest ts)

-- RFC 8259, 4 and 5: with commas between
abbrev pub joined : List (List ℕ) → List ℕ
joined [] = []
joined (t ∷ ts) = t ++ joined_rest ts

-- RFC 8259, 7: a hexadecimal digit, in lower case
abbrev pub hex_digit : ℕ → ℕ
hex_digit n = if nat_lt n 10 then 48 + n else 87 + n

-- RFC 8259, 7: the \u escape of a control character
abbrev pub control : ℕ → List ℕ
control b = codes "\\u00" ++ (hex_digit (b / 16) ∷ hex_digit (b % 16) ∷ [])

-- RFC 8259, 7: a character, escaped where it must be
abbrev pub escaped_char : ℕ → List ℕ
escaped_char c =
    if c == 34 || c == 92 then 92 ∷ c ∷ []
    else if nat_lt c 32 then control c
    else encode_utf8 c

-- RFC 8259, 7, string: between quotes
unfoldable pub quoted : List ℕ → List ℕ
quoted t = 34 ∷ (flat_map escaped_char (chars t) ++ 34 ∷ [])

-- RFC 8259, 6, frac: the last digits of a number, so many
abbrev pub fixed : ℕ → ℕ → List ℕ
fixed zero n = []
fixed (suc p) n = (48 + n / 10 ^ p % 10) ∷ fixed p n

-- RFC 8259, 6: digits, with a point before the last places
unfoldable pub magnitude : ℕ → ℕ → List ℕ
magnitude n places = if places == 0 then decimal n else decimal (n / 10 ^ places) ++ 46 ∷ fixed places n

-- RFC 8259, 6, number: a minus, where it is negative, and its digits
unfoldable pub decimal_text : DecimalValue → List ℕ
decimal_text d = (if d.negative then 45 ∷ [] else []) ++ magnitude d.digits d.places

-- RFC 8259, 3: a value, with texts in place of its children
abbrev pub json_step : Json-F (List ℕ) (List ℕ) → List ℕ
json_step Json-F.Null = codes "null"
json_step (Json-F.Flag b) = if b then codes "true" else codes "false"
json_step (Json-F.Number d) = decimal_text d
json_step (Json-F.Str t) = quoted t
json_step (Json-F.Array xs) = 91 ∷ (joined xs ++ 93 ∷ [])
json_step (Json-F.Object ms) = 123 ∷ (joined ms ++ 125 ∷ [])

-- RFC 8259, 4, member: the key, a colon, and the text of the value
abbrev pub member_step : Member-F (List ℕ) (List ℕ) → List ℕ
member_step m = quoted m.key ++ 58 ∷ m.value

-- RFC 8259, 3: the text of a value
abbrev pub printed : Json → List ℕ
printed = fold-Json (List ℕ) (List ℕ) json_step member_step

-- RFC 8259, 4: the text of a member
abbrev pub printed_member : Member → List ℕ
printed_member = fold-Member (List ℕ) (List ℕ) json_step member_step
