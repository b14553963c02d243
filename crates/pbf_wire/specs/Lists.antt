-- A list of numbers in a message, in packed and unpacked fields (Protocol Buffers, "Encoding": "Repeated Elements").
use Rattle.std.specs.Prelude.{ℕ, zero, suc, List, [], ◌∷◌, ◌++◌, length, take, Some, None, Result, Ok, Err, ◌==◌, nat_lt, if◌then◌else◌}
use Rattle.pbf_wire.specs.declared.wire.WireFault.{WireFault}
use Rattle.pbf_wire.specs.declared.fields.Spot.{Spot}
use Rattle.pbf_wire.specs.declared.fields.Values.{Values}
use Rattle.pbf_wire.specs.Wire.{varint_at, at_byte}
use Rattle.pbf_wire.specs.Runs.{least}

abbrev pub no_values : Values
no_values = record { values = []; bad = None }

-- one list behind another, with the lesser bad key
abbrev pub both : Values → Values → Values
both one other = record { values = one.values ++ other.values; bad = least one.bad other.bad }

-- a varint and those behind it; where none stands the field of this key is bad
abbrev pub with_varint : ℕ → Result (ℕ × ℕ) WireFault → (ℕ → Values) → Values
with_varint key (Ok r) behind = both (record { values = r.0 ∷ []; bad = None }) (behind r.1)
with_varint key (Err fault) behind = record { values = []; bad = Some key }

-- the varints from a place to the end, at most so many, in the field of a key
abbrev pub varints_from : ℕ → ℕ → List ℕ → ℕ → Values
varints_from key zero bytes at = no_values
varints_from key (suc most) bytes at =
    if nat_lt at (length bytes) then with_varint key (at_byte at (varint_at bytes at)) (varints_from key most bytes)
    else no_values

-- a packed field: varints from a place to the end; each takes at least one byte
unfoldable pub varints_of : ℕ → List ℕ → ℕ → Values
varints_of key bytes at = varints_from key (length bytes) bytes at

-- what a field holds of the list of a number
abbrev pub values_in : List ℕ → ℕ → Spot → Values
values_in bytes number spot =
    if spot.field.number == number then
    (if spot.field.wire == 0 then record { values = spot.field.value ∷ []; bad = None }
    else if spot.field.wire == 2 then varints_of spot.key (take spot.field.end bytes) spot.field.start
    else no_values)
    else no_values

-- the list of a number in these fields, in order
abbrev pub values_of : List ℕ → ℕ → List Spot → Values
values_of bytes number [] = no_values
values_of bytes number (spot ∷ spots) = both (values_in bytes number spot) (values_of bytes number spots)
