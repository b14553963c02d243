-- Escapes (RFC 8259, section 7), each with its character.
use Rattle.std.specs.Prelude.{◌≡◌, ℕ, ◌+◌, ◌*◌, ◌<◌, ◌≤◌, ◌⊎◌, List, [], ◌∷◌, ◌++◌, Ok, Contains, codes}
use Rattle.std.specs.Char.{digit_value}
use Rattle.exact_json.specs.Texts.{escape}

-- an escape of two bytes: the byte behind the backslash, the character, and the four digits of its `\u` form
pub record Named : Type 0 where
  pub letter : ℕ
  pub char : ℕ
  pub four : List ℕ

-- RFC 8259, 7: quotation mark, reverse solidus, solidus, backspace, form feed, line feed, carriage return, tab
abbrev pub named_escapes : List Named
named_escapes =
    record { letter = 34; char = 34; four = codes "0022" } ∷
    record { letter = 92; char = 92; four = codes "005C" } ∷
    record { letter = 47; char = 47; four = codes "002F" } ∷
    record { letter = 98; char = 8; four = codes "0008" } ∷
    record { letter = 102; char = 12; four = codes "000C" } ∷
    record { letter = 110; char = 10; four = codes "000A" } ∷
    record { letter = 114; char = 13; four = codes "000D" } ∷
    record { letter = 116; char = 9; four = codes "0009" } ∷ []

-- an escape of two bytes and its `\u` form are one character, whatever follows
abbrev pub NamedEscapesAreRead : Type 0
NamedEscapesAreRead = (start : ℕ) (e : Named) (rest : List ℕ) → Contains named_escapes e →
    (escape start (e.letter ∷ rest) ≡ Ok (e.char, rest)) × (escape start (117 ∷ (e.four ++ rest)) ≡ Ok (e.char, rest))

-- a hexadecimal digit of either case, worth so much
abbrev pub IsHex : ℕ → ℕ → Type 0
IsHex digit worth = (digit_value digit ≡ worth) × (worth < 16)

-- four hexadecimal digits, the most worth first
pub record AreFour (a b c d number : ℕ) : Type 0 where
  pub first : ℕ
  pub second : ℕ
  pub third : ℕ
  pub fourth : ℕ
  pub digits : IsHex a first × (IsHex b second × (IsHex c third × IsHex d fourth))
  pub number_is : number ≡ 4096 * first + (256 * second + (16 * third + fourth))

-- a `\u` escape of no surrogate is the character of that number
abbrev pub UnicodeEscapesAreRead : Type 0
UnicodeEscapesAreRead = (start a b c d number : ℕ) (rest : List ℕ) → AreFour a b c d number → (number < 55296) ⊎ (57344 ≤ number) →
    escape start (117 ∷ a ∷ b ∷ c ∷ d ∷ rest) ≡ Ok (number, rest)

-- RFC 2781, 2.2, and RFC 8259, 7: a high half from d800 and a low half from dc00 are the character 0x10000 and ten bits of each
abbrev pub PairsAreRead : Type 0
PairsAreRead = (start a b c d e f g h high low : ℕ) (rest : List ℕ) → AreFour a b c d (55296 + high) → AreFour e f g h (56320 + low) → high < 1024 → low < 1024 →
    escape start (117 ∷ a ∷ b ∷ c ∷ d ∷ 92 ∷ 117 ∷ e ∷ f ∷ g ∷ h ∷ rest) ≡ Ok (65536 + (1024 * high + low), rest)
