-- Coordinates: decimals of degrees, in units of 1e-7 degree.
use Rattle.std.specs.Prelude.{◌≡◌, ◌≢◌, ℕ, ◌+◌, ◌-◌, ◌*◌, ◌^◌, ◌<◌, ◌≤◌, ℤ, pos, neg_ℤ, Bool, List, [], ◌∷◌, ◌++◌, length, Some, Ok, IsTrue, IsUtf8, nat_abs, codes, if◌then◌else◌}
use Rattle.std.specs.Char.{is_ascii_digit}
use Rattle.gh_base.specs.Decimals.{decimal_of, id_of}
use Rattle.plain_map.specs.declared.line.Item.TheVariants.{Node}
use Rattle.plain_map.specs.Lines.{line_at}

abbrev pub AreDigits : List ℕ → Type 0
AreDigits [] = Unit {0}
AreDigits (d ∷ digits) = IsTrue (is_ascii_digit d) × AreDigits digits

-- what decimal digits are worth, the last one itself and each one before it ten times as much
abbrev pub worth : List ℕ → ℕ
worth [] = 0
worth (d ∷ digits) = (d - 48) * 10 ^ length digits + worth digits

-- the text of a sign, digits, a point and more digits
abbrev pub decimal_text : Bool → List ℕ → List ℕ → List ℕ
decimal_text minus whole places = (if minus then codes "-" else []) ++ (whole ++ 46 ∷ places)

-- a number with a sign
abbrev pub with_sign : Bool → ℕ → ℤ
with_sign minus n = if minus then neg_ℤ (pos n) else pos n

-- a decimal is the number that, times ten to the power of the places that were written, is all its digits times ten to the power of those that there may be
abbrev pub CoordinatesAreExact : Type 0
CoordinatesAreExact = (most : ℕ) (minus : Bool) (whole places : List ℕ) → AreDigits whole → 0 < length whole → length whole ≤ 9 → AreDigits places → 0 < length places → length places ≤ most →
    (n : ℕ) × (decimal_of most (decimal_text minus whole places) ≡ Some (with_sign minus n)) × (n * 10 ^ length places ≡ worth (whole ++ places) * 10 ^ most)

-- no byte of it is a space
abbrev pub IsWord : List ℕ → Type 0
IsWord [] = Unit {0}
IsWord (b ∷ bytes) = (b ≢ 32) × IsWord bytes

-- a word that is a coordinate
pub record Says (most : ℕ) (word : List ℕ) (z : ℤ) : Type 0 where
  pub word_is : IsWord word
  pub utf8 : IsUtf8 word
  pub decimal : decimal_of 7 word ≡ Some z
  pub within : nat_abs z ≤ most

-- a node's line has the latitude behind y and the longitude behind x, in either order
pub record NodesAreWhereTheySay : Type 0 where
  pub lat_first : (id lat lon : List ℕ) (i y x : ℤ) → id_of id ≡ Some i → IsWord id → IsUtf8 id → Says 900000000 lat y → Says 1800000000 lon x →
      line_at (codes "n" ++ (id ++ (codes " y" ++ (lat ++ (codes " x" ++ lon))))) ≡ Ok (Some (Node (record { id = i; place = record { lat = y; lon = x } })))
  pub lon_first : (id lat lon : List ℕ) (i y x : ℤ) → id_of id ≡ Some i → IsWord id → IsUtf8 id → Says 900000000 lat y → Says 1800000000 lon x →
      line_at (codes "n" ++ (id ++ (codes " x" ++ (lon ++ (codes " y" ++ lat))))) ≡ Ok (Some (Node (record { id = i; place = record { lat = y; lon = x } })))
