-- What is read of fields and messages that are written.
use Rattle.std.specs.Prelude.{◌≡◌, ℕ, ◌+◌, ◌≤◌, List, [], ◌∷◌, ◌++◌, length, take, None, Ok}
use Rattle.pbf_wire.specs.declared.wire.Field.{Field}
use Rattle.pbf_wire.specs.declared.fields.Spot.{Spot}
use Rattle.pbf_wire.specs.Wire.{field_of}
use Rattle.pbf_wire.specs.Runs.{run_of}
use Rattle.pbf_wire.specs.Pieces.{scalar_of}
use Rattle.pbf_wire.specs.Lists.{values_of}
use Rattle.pbf_file_laws.specs.Saying.{scalar, Lists}
use Rattle.pbf_file_laws.specs.Messages.{worth, Value, Entry, IsEntry, entry_text, IsMessage}

-- these bytes stand from a place to the end
pub record Stands (bytes : List ℕ) (at : ℕ) (content : List ℕ) : Type 0 where
  pub before : List ℕ
  pub whole : bytes ≡ before ++ content
  pub place : at ≡ length before

-- what is read of a value is that value: a number, or where its bytes stand
abbrev pub IsValueAt : List ℕ → Field → Value → Type 0
IsValueAt bytes field (Value.Varint groups) = (field.wire ≡ 0) × (field.value ≡ worth groups)
IsValueAt bytes field (Value.Eight eight) = field.wire ≡ 1
IsValueAt bytes field (Value.Bytes size content) = (field.wire ≡ 2) × (field.end ≤ length bytes) × Stands (take field.end bytes) field.start content
IsValueAt bytes field (Value.Four four) = field.wire ≡ 5

pub record IsFieldAt (bytes : List ℕ) (field : Field) (entry : Entry) : Type 0 where
  pub number : field.number ≡ entry.number
  pub value : IsValueAt bytes field entry.value

-- a field is read, and the next place is the one behind its bytes
pub record IsRead (bytes : List ℕ) (at : ℕ) (entry : Entry) : Type 0 where
  pub field : Field
  pub read : field_of bytes at ≡ Ok field
  pub is : IsFieldAt bytes field entry
  pub next : field.next ≡ at + length (entry_text entry)

-- each field, whatever its spelling and whatever stands round it
abbrev pub FieldsAreRead : Type 0
FieldsAreRead = (front rest : List ℕ) (entry : Entry) → IsEntry entry → IsRead (front ++ (entry_text entry ++ rest)) (length front) entry

-- fields that are read one by one
abbrev pub AreFields : List ℕ → List Spot → List Entry → Type 0
AreFields bytes [] [] = Unit {0}
AreFields bytes (spot ∷ spots) (entry ∷ entries) = IsFieldAt bytes spot.field entry × AreFields bytes spots entries
AreFields bytes [] (entry ∷ entries) = ⊥
AreFields bytes (spot ∷ spots) [] = ⊥

-- a run of these fields and no more, with nothing bad
pub record IsRun (bytes : List ℕ) (at : ℕ) (entries : List Entry) : Type 0 where
  pub spots : List Spot
  pub read : run_of bytes at ≡ record { fields = spots; bad = None }
  pub are : AreFields bytes spots entries

-- a message is read as its fields
abbrev pub MessagesAreRead : Type 0
MessagesAreRead = (bytes content : List ℕ) (at : ℕ) (entries : List Entry) → Stands bytes at content → IsMessage content entries → IsRun bytes at entries

-- of its scalars the last counts
abbrev pub ScalarsAreRead : Type 0
ScalarsAreRead = (bytes content : List ℕ) (at : ℕ) (entries : List Entry) (number : ℕ) → Stands bytes at content → IsMessage content entries →
    scalar_of number None (run_of bytes at).fields ≡ scalar number entries

-- its lists are read packed, one by one, and in pieces
abbrev pub ListsAreRead : Type 0
ListsAreRead = (bytes content : List ℕ) (at : ℕ) (entries : List Entry) (number : ℕ) (numbers : List ℕ) → Stands bytes at content → IsMessage content entries → Lists number entries numbers →
    values_of bytes number (run_of bytes at).fields ≡ record { values = numbers; bad = None }
