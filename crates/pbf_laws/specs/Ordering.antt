-- The fields of a message may stand in any order, with unknown ones between (Protocol Buffers, "Encoding": "Message Structure", "Field Order").
use Rattle.std.specs.Prelude.{◌≡◌, ◌≢◌, ℕ, List, [], ◌∷◌, ◌++◌, Option}
use Rattle.pbf_wire.specs.declared.fields.Spot.{Spot}
use Rattle.pbf_wire.specs.Lists.{values_of}
use Rattle.pbf_wire.specs.Pieces.{scalar_of, pieces_of}

-- two lists of fields say the same of a number: as a scalar, as stretches of bytes, and as a list
pub record SaySame (bytes : List ℕ) (number : ℕ) (one other : List Spot) : Type 0 where
  pub scalar : (found : Option ℕ) → scalar_of number found one ≡ scalar_of number found other
  pub pieces : pieces_of number one ≡ pieces_of number other
  pub values : (values_of bytes number one).values ≡ (values_of bytes number other).values

-- fields of different numbers may change places; swaps of neighbours make each order that keeps those of one number
abbrev pub FieldsMayBeSwapped : Type 0
FieldsMayBeSwapped = (bytes : List ℕ) (number : ℕ) (front : List Spot) (one two : Spot) (back : List Spot) → one.field.number ≢ two.field.number →
    SaySame bytes number (front ++ one ∷ two ∷ back) (front ++ two ∷ one ∷ back)

-- a field of another number says nothing
abbrev pub UnknownFieldsSayNothing : Type 0
UnknownFieldsSayNothing = (bytes : List ℕ) (number : ℕ) (front : List Spot) (field : Spot) (back : List Spot) → field.field.number ≢ number →
    SaySame bytes number (front ++ field ∷ back) (front ++ back)
