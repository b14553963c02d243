-- Messages as they are written: their fields, one behind another (Protocol Buffers, "Encoding").
use Rattle.std.specs.Prelude.{ℕ, ◌+◌, ◌*◌, ℤ, pos, negsuc, List, [], ◌∷◌, ◌++◌}
use Rattle.std.specs.Int.{int_wrapping_sub, w64}
use Rattle.pbf_wire.specs.Put.{varint_bytes, bytes_field}

-- a field of a number: a varint, bytes (a message is bytes too), or a packed list of varints
pub data Part : Type 0 where
  Number : ℕ → ℕ → Part
  Bytes : ℕ → List ℕ → Part
  Packed : ℕ → List ℕ → Part

abbrev pub varints_text : List ℕ → List ℕ
varints_text [] = []
varints_text (n ∷ ns) = varint_bytes n ++ varints_text ns

-- an empty list is not written
abbrev pub part_text : Part → List ℕ
part_text (Part.Number number value) = varint_bytes (8 * number) ++ varint_bytes value
part_text (Part.Bytes number bytes) = bytes_field number bytes
part_text (Part.Packed number []) = []
part_text (Part.Packed number (n ∷ ns)) = bytes_field number (varints_text (n ∷ ns))

abbrev pub message_text : List Part → List ℕ
message_text [] = []
message_text (part ∷ parts) = part_text part ++ message_text parts

-- a signed number as a varint: 0, -1, 1, -2, .. ("Signed Integers": zigzag)
abbrev pub sint : ℤ → ℕ
sint (pos n) = 2 * n
sint (negsuc n) = 2 * n + 1

-- each number less the one before it, in 64 bits
abbrev pub deltas : ℤ → List ℤ → List ℕ
deltas last [] = []
deltas last (z ∷ zs) = sint (int_wrapping_sub w64 z last) ∷ deltas z zs
