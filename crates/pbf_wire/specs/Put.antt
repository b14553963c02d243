-- Varints and fields as they are written (Protocol Buffers, "Encoding").
use Rattle.std.specs.Prelude.{ℕ, ◌+◌, ◌*◌, ◌/◌, ◌%◌, zero, suc, List, [], ◌∷◌, ◌++◌, ◌≡◌, length, nat_lt, if◌then◌else◌}

-- in at most so many bytes
abbrev pub bytes_in : ℕ → ℕ → List ℕ
bytes_in zero n = []
bytes_in (suc most) n = if nat_lt n 128 then n ∷ [] else (n % 128 + 128) ∷ bytes_in most (n / 128)

-- the shortest varint of a number
unfoldable pub varint_bytes : ℕ → List ℕ
varint_bytes n = bytes_in 10 n

-- a field that holds bytes
unfoldable pub bytes_field : ℕ → List ℕ → List ℕ
bytes_field number bytes = varint_bytes (8 * number + 2) ++ (varint_bytes (length bytes) ++ bytes)

-- the old bytes, and maybe some more behind them
pub record Extends (old new : List ℕ) : Type 0 where
  pub more : List ℕ
  pub joined : new ≡ old ++ more
