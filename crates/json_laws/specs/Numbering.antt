-- What a number's text is worth (RFC 8259, section 6).
use Rattle.std.specs.Prelude.{◌≡◌, ℕ, ◌+◌, ◌*◌, ◌^◌, Bool, true, false, ◌&&◌, List, ◌++◌, length, Some, nat_lt}
use Rattle.exact_json.specs.Decimals.{DecimalValue, decimal_of, spelled}

-- digits over ten to the power of places are these digits, of which so many stand behind the point, times ten to the power of the exponent
abbrev pub IsWorth : DecimalValue → ℕ → ℕ → Bool → ℕ → Type 0
IsWorth d digits behind false exponent = d.digits * 10 ^ behind ≡ digits * 10 ^ exponent * 10 ^ d.places
IsWorth d digits behind true exponent = d.digits * 10 ^ (behind + exponent) ≡ digits * 10 ^ d.places

-- the decimal of a sign, digits, digits behind the point and an exponent is worth what they say, and is negative where the sign is and it isn't 0
abbrev pub DecimalsAreExact : Type 0
DecimalsAreExact = (negative down : Bool) (whole fraction exponent : List ℕ) (d : DecimalValue) → decimal_of negative whole fraction down exponent ≡ Some d →
    IsWorth d (spelled 0 (whole ++ fraction)) (length fraction) down (spelled 0 exponent) × (d.negative ≡ (negative && nat_lt 0 (spelled 0 (whole ++ fraction))))
