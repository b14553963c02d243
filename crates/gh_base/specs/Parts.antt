-- The parts of a text round a byte: lines round a newline, words round a space, items round a comma.
use Rattle.std.specs.Prelude.{ℕ, ◌+◌, zero, List, [], length, ◌==◌, Option, Some, None}
use Rattle.std.specs.List.{slice_split}

-- the parts round a byte, of which there is at least one
abbrev pub parts_of : ℕ → List ℕ → List (List ℕ)
parts_of byte bytes = slice_split (λ b. b == byte) bytes

-- those of what is left, if anything is
abbrev pub parts_left : ℕ → Option (List ℕ) → List (List ℕ)
parts_left byte None = []
parts_left byte (Some bytes) = parts_of byte bytes

-- a number that falls as parts are taken
abbrev pub room : Option (List ℕ) → ℕ
room None = zero
room (Some bytes) = length bytes + 1
