-- Scalars, and embedded messages: several values of one that isn't repeated are joined (Protocol Buffers, "Encoding": "Last One Wins").
use Rattle.std.specs.Prelude.{ℕ, ◌+◌, ◌-◌, List, [], ◌∷◌, ◌++◌, take, drop, Bool, ◌&&◌, Option, Some, None, ◌==◌, nat_lt, if◌then◌else◌}
use Rattle.pbf_wire.specs.declared.fields.Spot.{Spot}
use Rattle.pbf_wire.specs.declared.fields.Piece.{Piece}

-- the last varint of a number in these fields, or else this one
abbrev pub scalar_of : ℕ → Option ℕ → List Spot → Option ℕ
scalar_of number found [] = found
scalar_of number found (spot ∷ spots) =
    scalar_of number (if spot.field.number == number && spot.field.wire == 0 then Some spot.field.value else found) spots

-- whether a field holds bytes, under this number
abbrev pub is_bytes : ℕ → Spot → Bool
is_bytes number spot = spot.field.number == number && spot.field.wire == 2

-- where the bytes of a number stand, each time that it stands there
abbrev pub pieces_of : ℕ → List Spot → List Piece
pieces_of number [] = []
pieces_of number (spot ∷ spots) =
    if is_bytes number spot then record { start = spot.field.start; end = spot.field.end } ∷ pieces_of number spots
    else pieces_of number spots

-- the last of these, or else this one
abbrev pub last_piece : Option Piece → List Piece → Option Piece
last_piece found [] = found
last_piece found (piece ∷ pieces) = last_piece (Some piece) pieces

-- the bytes from a place to another, as far as they are there
abbrev pub part_of : List ℕ → ℕ → ℕ → List ℕ
part_of bytes start end = drop start (take end bytes)

-- the bytes of these stretches, one behind another
abbrev pub joined_of : List ℕ → List Piece → List ℕ
joined_of bytes [] = []
joined_of bytes (piece ∷ pieces) = part_of bytes piece.start piece.end ++ joined_of bytes pieces

-- where a byte of what was joined stands
abbrev pub place_in : List Piece → ℕ → ℕ
place_in [] offset = offset
place_in (piece ∷ pieces) offset =
    if nat_lt offset (piece.end - piece.start) then piece.start + offset
    else place_in pieces (offset - (piece.end - piece.start))

-- a key in what was joined, as a place
abbrev pub placed : List Piece → Option ℕ → Option ℕ
placed pieces None = None
placed pieces (Some offset) = Some (place_in pieces offset)
