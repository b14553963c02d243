-- The fields of a message tile its bytes: each byte of a message that is read belongs to exactly one field.
use Rattle.std.specs.Prelude.{◌≡◌, ℕ, ◌+◌, ◌-◌, ◌*◌, ◌<◌, ◌≤◌, List, [], ◌∷◌, length, None, Ok}
use Rattle.pbf_wire.specs.declared.wire.Field.{Field}
use Rattle.pbf_wire.specs.declared.fields.Spot.{Spot}
use Rattle.pbf_wire.specs.Wire.{varint_at}
use Rattle.pbf_wire.specs.Runs.{run_of}

-- a varint from a place to another is this number
abbrev pub IsVarintAt : List ℕ → ℕ → ℕ → ℕ → Type 0
IsVarintAt bytes at end number = varint_at bytes at ≡ Ok (number, end)

-- what stands from behind a key to the end of the field: a varint, eight bytes, a length and so many bytes, or four bytes
pub data IsFramed (bytes : List ℕ) (field : Field) (behind : ℕ) : Type 0 where
  Varint : field.wire ≡ 0 → field.start ≡ behind → IsVarintAt bytes behind field.end field.value → IsFramed bytes field behind
  Eight : field.wire ≡ 1 → field.start ≡ behind → field.end ≡ behind + 8 → IsFramed bytes field behind
  Bytes : field.wire ≡ 2 → IsVarintAt bytes behind field.start (field.end - field.start) → IsFramed bytes field behind
  Four : field.wire ≡ 5 → field.start ≡ behind → field.end ≡ behind + 4 → IsFramed bytes field behind

-- a key from the field's first byte, with a number that isn't 0, and its value to the field's end
pub record IsTile (bytes : List ℕ) (at : ℕ) (field : Field) : Type 0 where
  pub key : ℕ
  pub behind : ℕ
  pub key_is : IsVarintAt bytes at behind key
  pub says : key ≡ 8 * field.number + field.wire
  pub some : 0 < field.number
  pub framed : IsFramed bytes field behind
  pub up : field.start ≤ field.end
  pub next : field.next ≡ field.end
  pub inside : field.end ≤ length bytes

-- each field begins where the one before it ends, from a place to the end
abbrev pub Tile : List ℕ → List Spot → ℕ → Type 0
Tile bytes [] at = at ≡ length bytes
Tile bytes (spot ∷ spots) at = (spot.key ≡ at) × IsTile bytes at spot.field × Tile bytes spots spot.field.end

-- of any bytes: where nothing is bad, the fields tile them
abbrev pub FieldsTile : Type 0
FieldsTile = (bytes : List ℕ) (at : ℕ) → at ≤ length bytes → (run_of bytes at).bad ≡ None → Tile bytes (run_of bytes at).fields at
