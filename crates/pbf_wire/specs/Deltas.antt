-- Numbers with a sign, ids and coordinates (Protocol Buffers, "Encoding": "Signed Integers"; OSM wiki, "PBF Format": "Definition of the OSMData fileblock").
use Rattle.std.specs.Prelude.{ℕ, ◌/◌, ◌%◌, ℤ, pos, negsuc, ◌+ℤ◌, ◌*ℤ◌, nat_abs, List, [], ◌∷◌, Bool, not, Option, Some, None, Result, Ok, ◌==◌, nat_lt, nat_le, if◌then◌else◌}
use Rattle.std.specs.Int.{int_div_euclid}
use Rattle.gh_base.specs.declared.kinds.PbfKind.{PbfKind}
use Rattle.gh_base.specs.declared.kinds.PbfKind.TheVariants.{BadId, BadPlace}
use Rattle.pbf_wire.specs.declared.messages.Axis.{Axis}
use Rattle.pbf_wire.specs.Wire.{◌>>=◌}
use Rattle.pbf_wire.specs.Faults.{◌>>◌, refuse, or_fault}

-- zigzag: 0, -1, 1, -2, 2 and so on
abbrev pub zigzag_of : ℕ → ℤ
zigzag_of n = if n % 2 == 0 then pos (n / 2) else negsuc (n / 2)

-- at most eighteen digits
abbrev pub is_id : ℤ → Bool
is_id id = nat_lt (nat_abs id) 1000000000000000000

-- the ids that these deltas make from a number on
abbrev pub ids_from : ℕ → ℤ → List ℕ → Result (List ℤ) (ℕ × PbfKind)
ids_from place last [] = Ok []
ids_from place last (delta ∷ deltas) = do
  let id = last +ℤ zigzag_of delta
  refuse (not (is_id id)) place BadId
  ids ← ids_from place id deltas
  Ok (id ∷ ids)

-- at most so far from 0
abbrev pub within : ℕ → ℤ → Option ℤ
within most unit = if nat_le (nat_abs unit) most then Some unit else None

-- a value of an axis in units of 1e-7 degree, rounded down
unfoldable pub coordinate_of : Axis → ℤ → Option ℤ
coordinate_of axis value = within axis.most (int_div_euclid (axis.granularity *ℤ value +ℤ axis.offset) (pos 100))

-- the coordinates that these deltas make from a number on
abbrev pub coordinates_from : ℕ → Axis → ℤ → List ℕ → Result (List ℤ) (ℕ × PbfKind)
coordinates_from place axis last [] = Ok []
coordinates_from place axis last (delta ∷ deltas) = do
  let value = last +ℤ zigzag_of delta
  unit ← or_fault (coordinate_of axis value) place BadPlace
  units ← coordinates_from place axis value deltas
  Ok (unit ∷ units)
