-- Characters of keys and values, as themselves or as escapes (OPL, "OPL File Format Manual").
use Rattle.std.specs.Prelude.{◌≡◌, ◌≢◌, ℕ, ◌+◌, ◌*◌, ◌^◌, ◌<◌, ◌≤◌, ◌⊎◌, List, [], ◌∷◌, ◌++◌, length, Ok, encode_utf8}
use Rattle.std.specs.Char.{digit_value}
use Rattle.plain_map.specs.Escapes.{text_at}

-- no percent sign is among these bytes
abbrev pub HasNoPercent : List ℕ → Type 0
HasNoPercent [] = Unit {0}
HasNoPercent (b ∷ bytes) = (b ≢ 37) × HasNoPercent bytes

-- hexadecimal digits of either case
abbrev pub AreHex : List ℕ → Type 0
AreHex [] = Unit {0}
AreHex (d ∷ digits) = (digit_value d < 16) × AreHex digits

-- what they are worth, the last one itself and each one before it sixteen times as much
abbrev pub hex_worth : List ℕ → ℕ
hex_worth [] = 0
hex_worth (d ∷ digits) = digit_value d * 16 ^ length digits + hex_worth digits

-- a character of Unicode
abbrev pub IsCharacter : ℕ → Type 0
IsCharacter c = (c < 55296) ⊎ ((57344 ≤ c) × (c < 1114112))

pub record CharactersMayBeEscaped : Type 0 where
  pub itself : (bytes : List ℕ) → HasNoPercent bytes → text_at bytes ≡ Ok bytes
  pub escape : (front digits rest text : List ℕ) → HasNoPercent front → AreHex digits → 0 < length digits → length digits ≤ 6 → IsCharacter (hex_worth digits) → text_at rest ≡ Ok text →
      text_at (front ++ 37 ∷ (digits ++ 37 ∷ rest)) ≡ Ok (front ++ (encode_utf8 (hex_worth digits) ++ text))
