-- The numbers in the texts of models: exact decimals within bounds, which are this project's own.
use Rattle.std.specs.Prelude.{ℕ, ◌+◌, min, ℤ, pos, int_lt, Bool, ◌&&◌, List, length, drop, get_or, Option, Some, None, ◌==◌, nat_lt, if◌then◌else◌}
use Rattle.std.specs.List.{prefix_len}
use Rattle.std.specs.Char.{is_ascii_digit}
use Rattle.std.specs.Int.RustNames.{unsigned_abs}
use Rattle.gh_base.specs.Decimals.{◌>>=◌, decimal_of, is_minus}
use Rattle.model_texts.specs.declared.amounts.Verb.{Verb}
use Rattle.model_texts.specs.declared.amounts.Verb.TheVariants.{Multiply, Limit}
use Rattle.model_eval.specs.declared.custom_model.Running.{Running}
use Rattle.model_eval.specs.declared.custom_model.Running.TheVariants.{Speed, Priority}

-- a number that isn't negative
abbrev pub natural : ℤ → Option ℕ
natural z = if int_lt z (pos 0) then None else Some (unsigned_abs z)

-- a number from 0 to a greatest
abbrev pub at_most : ℕ → ℕ → Option ℕ
at_most most n = if nat_lt most n then None else Some n

abbrev pub within : ℕ → ℤ → Option ℕ
within most z = natural z >>= at_most most

-- the places that an action's number may have: factors and limits of priority are in millionths, limits of speed in
-- thousandths of a km/h
abbrev pub places_of : Verb → Running → ℕ
places_of Multiply running = 6
places_of Limit Speed = 3
places_of Limit Priority = 6

-- its greatest value: 10, and for a limit of speed 1000 km/h
abbrev pub most_of : Verb → Running → ℕ
most_of Multiply running = 10000000
most_of Limit Speed = 1000000
most_of Limit Priority = 10000000

-- what a number is compared with: a decimal of at most three places, in thousandths
unfoldable pub constant_of : List ℕ → Option ℕ
constant_of s = decimal_of 3 s >>= natural

-- a factor of an expression: a decimal of at most six places, at most 10, in millionths
unfoldable pub factor_of : List ℕ → Option ℕ
factor_of s = decimal_of 6 s >>= within 10000000

-- where the digits from a byte on end, of which at most so many count
abbrev pub digits_end : List ℕ → ℕ → ℕ → ℕ
digits_end text start most = start + min most (prefix_len is_ascii_digit (drop start text))

-- where the sign and the whole digits of a decimal end
abbrev pub whole_end : List ℕ → ℕ
whole_end text = digits_end text (if is_minus text then 1 else 0) 9

-- a dot goes on behind them
abbrev pub goes_on : ℕ → List ℕ → ℕ → ℕ → Bool
goes_on places text start dot = nat_lt start dot && nat_lt 0 places && nat_lt dot (length text) && get_or text dot 0 == 46

-- the length of a text's longest front that can still be continued to a decimal of at most so many places
unfoldable pub front_of : ℕ → List ℕ → ℕ
front_of places text =
    if goes_on places text (if is_minus text then 1 else 0) (whole_end text) then digits_end text (whole_end text + 1) places
    else whole_end text
