-- Lists and scalars of a message that was written.
use Rattle.std.proofs.lemmas.Bool.{cases_Bool, lt-ltb, le-ltb}
use Rattle.std.proofs.Math.Bool.{and-true, and-false}
use Rattle.std.proofs.Common.{◌≡◌, ◌∙◌, ℕ, ◌+◌, ◌^◌, ◌<◌, ◌≤◌, ◌==◌, zero, suc, inl, inr, List, [], ◌∷◌, ◌++◌, length, drop, Option, Some, None, refl, ap, arith, length-drop, if◌then◌else◌}
use Rattle.std.specs.List.{AllByRecursion}
use Rattle.pbf_wire.specs.Put.{varint_bytes, bytes_field}
use Rattle.pbf_wire.specs.Parts.{Part, part_text, message_text, varints_text}
use Rattle.pbf_wire.specs.Lists.{varints_from, varints_of, values_of}
use Rattle.pbf_wire.specs.Pieces.{scalar_of}
use Rattle.pbf_writer.proofs.FieldsRead.{IsPart, spots_of, lead, behind, room_of, content_there, varint_some, varint_there}

varints_all : (vs : List ℕ) (key at : ℕ) (bytes : List ℕ) (most : ℕ) → AllByRecursion (λ v. v < 2 ^ 64) vs → drop at bytes ≡ varints_text vs → length bytes ≤ at + most → varints_from key most bytes at ≡ record { values = vs; bad = None }
varints_all [] key at bytes zero good e room = refl
varints_all [] key at bytes (suc most) good e room = rw (le-ltb at (length bytes) (omega (arith, length-drop at bytes, ap length e))) refl
varints_all (v ∷ vs) key at bytes zero good e room = absurd (omega (arith, varint_some v, room_of bytes (varint_bytes v) (varints_text vs) at e))
varints_all (v ∷ vs) key at bytes (suc most) good e room =
    let some = varint_some v in
    let long = room_of bytes (varint_bytes v) (varints_text vs) at e in
    let rest = varints_all vs key (at + length (varint_bytes v)) bytes most good.1 (behind bytes (varint_bytes v) (varints_text vs) at e) (omega arith) in
    rw (lt-ltb at (length bytes) (omega arith), varint_there bytes (varints_text vs) at v good.0 e, rest) refl

-- a packed list
varints_read : (vs : List ℕ) (key at : ℕ) (bytes : List ℕ) → AllByRecursion (λ v. v < 2 ^ 64) vs → drop at bytes ≡ varints_text vs → varints_of key bytes at ≡ record { values = vs; bad = None }
unfolding varints_of
varints_read vs key at bytes good e = varints_all vs key at bytes (length bytes) good e (omega arith)

-- the list of a number in these parts
abbrev pub list_in : ℕ → List Part → List ℕ
list_in number [] = []
list_in number (Part.Number n v ∷ parts) = (if n == number then v ∷ [] else []) ++ list_in number parts
list_in number (Part.Bytes n content ∷ parts) = list_in number parts
list_in number (Part.Packed n vs ∷ parts) = (if n == number then vs else []) ++ list_in number parts

-- no part but numbers and lists
abbrev pub IsListed : Part → Type 0
IsListed (Part.Number n v) = Unit {0}
IsListed (Part.Bytes n content) = ⊥
IsListed (Part.Packed n vs) = Unit {0}

pub values_read : (parts : List Part) (number at : ℕ) (bytes : List ℕ) → AllByRecursion IsPart parts → AllByRecursion IsListed parts → drop at bytes ≡ message_text parts → values_of bytes number (spots_of at parts) ≡ record { values = list_in number parts; bad = None }
values_read [] number at bytes good listed e = refl
values_read (Part.Number n v ∷ parts) number at bytes good listed e =
    let text = part_text (Part.Number n v) in
    let more = values_read parts number (at + length text) bytes good.1 listed.1 (behind bytes text (message_text parts) at e) in
    elim (cases_Bool (n == number)) [
      | inl t ↦ rw (t, more) refl
      | inr f ↦ rw (f, more) refl
    ]
values_read (Part.Bytes n content ∷ parts) number at bytes good listed e = absurd listed.0
values_read (Part.Packed n [] ∷ parts) number at bytes good listed e =
    let more = values_read parts number at bytes good.1 listed.1 e in
    elim (cases_Bool (n == number)) [
      | inl t ↦ rw (t, more) refl
      | inr f ↦ rw (f, more) refl
    ]
values_read (Part.Packed n (v ∷ vs) ∷ parts) number at bytes good listed e =
    let content = varints_text (v ∷ vs) in
    let text = bytes_field n content in
    let here = varints_read (v ∷ vs) at (at + length (lead n content)) _ good.0.3 (content_there bytes content (message_text parts) n at e) in
    let more = values_read parts number (at + length text) bytes good.1 listed.1 (behind bytes text (message_text parts) at e) in
    elim (cases_Bool (n == number)) [
      | inl t ↦ rw (t, here, more) refl
      | inr f ↦ rw (f, more) refl
    ]

-- the last number of a number in these parts, or else this one
abbrev pub scalar_in : ℕ → Option ℕ → List Part → Option ℕ
scalar_in number found [] = found
scalar_in number found (Part.Number n v ∷ parts) = scalar_in number (if n == number then Some v else found) parts
scalar_in number found (Part.Bytes n content ∷ parts) = scalar_in number found parts
scalar_in number found (Part.Packed n vs ∷ parts) = scalar_in number found parts

pub scalar_read : (parts : List Part) (number at : ℕ) (found : Option ℕ) → scalar_of number found (spots_of at parts) ≡ scalar_in number found parts
scalar_read [] number at found = refl
scalar_read (Part.Number n v ∷ parts) number at found =
    let next = at + length (part_text (Part.Number n v)) in
    ap (λ b. scalar_of number (if b then Some v else found) (spots_of next parts)) (and-true (n == number)) ∙ scalar_read parts number next (if n == number then Some v else found)
scalar_read (Part.Bytes n content ∷ parts) number at found =
    let next = at + length (bytes_field n content) in
    ap (λ b. scalar_of number (if b then Some (length content) else found) (spots_of next parts)) (and-false (n == number)) ∙ scalar_read parts number next found
scalar_read (Part.Packed n [] ∷ parts) number at found = scalar_read parts number at found
scalar_read (Part.Packed n (v ∷ vs) ∷ parts) number at found =
    let content = varints_text (v ∷ vs) in
    let next = at + length (bytes_field n content) in
    ap (λ b. scalar_of number (if b then Some (length content) else found) (spots_of next parts)) (and-false (n == number)) ∙ scalar_read parts number next found
