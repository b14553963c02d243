-- Names of actors and profiles.
use Rattle.std.specs.Prelude.{ℕ, Bool, false, ◌&&◌, ◌||◌, not, List, [], ◌∷◌, length, ◌==◌, nat_lt, codes}
use Rattle.std.specs.Char.{is_ascii_digit, is_ascii_lowercase}
use Rattle.std.specs.List.{list_all}
use Rattle.std.specs.Str.{bytes_eq}

-- the words that begin lines of their own are no names
abbrev pub is_reserved : List ℕ → Bool
is_reserved word = bytes_eq word (codes "sync") || bytes_eq word (codes "profile") || bytes_eq word (codes "journal") || bytes_eq word (codes "actor")

abbrev pub is_name_byte : ℕ → Bool
is_name_byte b = is_ascii_lowercase b || is_ascii_digit b || b == 95

-- a lower-case letter, and up to fifteen lower-case letters, digits and _
abbrev pub is_formed : List ℕ → Bool
is_formed [] = false
is_formed (b ∷ bytes) = is_ascii_lowercase b && nat_lt (length bytes) 16 && list_all is_name_byte bytes

unfoldable pub is_name : List ℕ → Bool
is_name word = is_formed word && not (is_reserved word)
