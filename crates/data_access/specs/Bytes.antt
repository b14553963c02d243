-- Bytes, and the words that they make (little-endian, as GraphHopper's `DataAccess` keeps them).
use Rattle.std.specs.Prelude.{◌≡◌, ℕ, ◌+◌, ◌-◌, List, ◌++◌, length, replicate, take, drop, slice_range}
use Rattle.std.specs.List.{flat_map}
use Rattle.std.specs.Int.{w16, w32, to_le_bytes, from_le_bytes}

-- the bytes of words of four bytes, the lowest byte of each first
abbrev pub bytes_of : List ℕ → List ℕ
bytes_of words = flat_map (to_le_bytes w32) words

-- bytes with others from a place on: what is before the place, the others, and what is behind them
abbrev pub bytes_with : List ℕ → ℕ → List ℕ → List ℕ
bytes_with bytes at others = take at bytes ++ others ++ drop (at + length others) bytes

-- nothing comes to a list but zeros behind it
abbrev pub GrowsByZeros : List ℕ → List ℕ → Type 0
GrowsByZeros old new = new ≡ old ++ replicate (length new - length old) 0

-- the word of two bytes from a place on, and that of four
abbrev pub u16_at : List ℕ → ℕ → ℕ
u16_at bytes at = from_le_bytes w16 (slice_range bytes at (at + 2))

abbrev pub u32_at : List ℕ → ℕ → ℕ
u32_at bytes at = from_le_bytes w32 (slice_range bytes at (at + 4))
