-- Decimals of conditions and actions, multiplied out.
use Rattle.std.specs.Prelude.{◌≡◌, ℕ, ◌+◌, ◌-◌, ◌*◌, ◌^◌, ◌<◌, ◌≤◌, List, [], ◌∷◌, ◌++◌, length}
use Rattle.model_laws.specs.Spelling.{is_digit, AllPass}

-- what digits are worth
abbrev pub worth : List ℕ → ℕ
worth [] = 0
worth (d ∷ digits) = (d - 48) * 10 ^ length digits + worth digits

-- a point before digits, where there are any
abbrev pub pointed : List ℕ → List ℕ
pointed [] = []
pointed (d ∷ digits) = 46 ∷ d ∷ digits

-- a text is one to nine digits, and maybe a point and at most so many digits; in units of the last of these places it is
-- worth a number
pub record IsDecimal (places n : ℕ) (text : List ℕ) : Type 0 where
  pub whole : List ℕ
  pub behind : List ℕ
  pub text_is : text ≡ whole ++ pointed behind
  pub digits : AllPass is_digit whole × AllPass is_digit behind
  pub some : 0 < length whole
  pub few : length whole ≤ 9
  pub few_places : length behind ≤ places
  pub worth_is : n * 10 ^ length behind ≡ worth (whole ++ behind) * 10 ^ places
