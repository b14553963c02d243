-- Numbers in messages (Protocol Buffers, "Encoding") and coordinates (OSM wiki, "PBF Format").
use Rattle.std.specs.Prelude.{◌≡◌, ℕ, ◌+◌, ◌*◌, ◌%◌, ◌^◌, ◌<◌, ◌≤◌, ℤ, pos, negsuc, ◌+ℤ◌, ◌*ℤ◌, ◌≤ℤ◌, nat_abs, List, [], ◌∷◌, ◌++◌, length, Some, Ok}
use Rattle.pbf_wire.specs.declared.messages.Axis.{Axis}
use Rattle.pbf_wire.specs.Wire.{varint_front}
use Rattle.pbf_wire.specs.Deltas.{zigzag_of, coordinate_of}

-- "Base 128 Varints": groups of seven bits, the least first
abbrev pub AreGroups : List ℕ → Type 0
AreGroups [] = Unit {0}
AreGroups (g ∷ groups) = (g < 128) × AreGroups groups

-- each byte but the last has its top bit set
abbrev pub varint_of : List ℕ → List ℕ
varint_of [] = []
varint_of (g ∷ []) = g ∷ []
varint_of (g ∷ next ∷ groups) = (g + 128) ∷ varint_of (next ∷ groups)

-- what they make
abbrev pub worth : List ℕ → ℕ
worth [] = 0
worth (g ∷ groups) = g + 128 * worth groups

-- in one to ten bytes, however long, a varint is what its groups make, in 64 bits
abbrev pub VarintsMayBeLonger : Type 0
VarintsMayBeLonger = (groups rest : List ℕ) → AreGroups groups → 0 < length groups → length groups ≤ 10 →
    varint_front (varint_of groups ++ rest) ≡ Ok (worth groups % 2 ^ 64, length groups)

-- "Signed Integers": a number that isn't negative is twice itself, a negative one twice its magnitude less one
pub record SignsAreZigzag : Type 0 where
  pub positive : (n : ℕ) → zigzag_of (2 * n) ≡ pos n
  pub negative : (n : ℕ) → zigzag_of (2 * n + 1) ≡ negsuc n

-- OSM wiki: granularity times value and the offset, in 1e-9 degree; here rounded down to 1e-7 degree
pub record IsRoundedDown (unit nano : ℤ) : Type 0 where
  pub low : (pos 100 *ℤ unit) ≤ℤ nano
  pub high : (nano +ℤ pos 1) ≤ℤ ((pos 100 *ℤ unit) +ℤ pos 100)

abbrev pub CoordinatesAreRoundedDown : Type 0
CoordinatesAreRoundedDown = (axis : Axis) (value unit : ℤ) → coordinate_of axis value ≡ Some unit →
    IsRoundedDown unit (axis.offset +ℤ (axis.granularity *ℤ value)) × (nat_abs unit ≤ axis.most)
