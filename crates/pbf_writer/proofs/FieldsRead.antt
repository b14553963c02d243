-- Fields that are written are read again, whatever follows them.
use Rattle.std.proofs.lemmas.Bool.{le-leb, lt-ltb, le-ltb, ne_eqb}
use Rattle.std.proofs.lemmas.List.{length-take-le, drop-drop, drop-take, drop_at, take_at}
use Rattle.std.proofs.Common.{◌≡◌, ◌∙◌, ℕ, ◌+◌, ◌-◌, ◌*◌, ◌/◌, ◌%◌, ◌^◌, ◌<◌, ◌≤◌, zero, suc, List, [], ◌∷◌, ◌++◌, length, take, drop, Ok, None, Bool, true, false, ltb, refl, sym, ap, arith, append_assoc, length-append, length-drop, take-append-drop}
use Rattle.std.specs.List.{AllByRecursion}
use Rattle.pbf_wire.specs.declared.wire.Field.{Field}
use Rattle.pbf_wire.specs.declared.fields.Spot.{Spot}
use Rattle.pbf_wire.specs.Wire.{varint_at, value_of, behind_key, field_of}
use Rattle.pbf_wire.specs.Put.{varint_bytes, bytes_field, bytes_in}
use Rattle.pbf_wire.specs.Parts.{Part, part_text, message_text, varints_text}
use Rattle.pbf_wire.specs.Runs.{run_from, run_of}
use Rattle.pbf_wire.proofs.Puts.{read_at}

-- a part whose numbers fit
abbrev pub IsPart : Part → Type 0
IsPart (Part.Number number value) = (0 < number) × (number < 2 ^ 32) × (value < 2 ^ 64)
IsPart (Part.Bytes number bytes) = (0 < number) × (number < 2 ^ 32) × (length bytes < 2 ^ 64)
IsPart (Part.Packed number values) = (0 < number) × (number < 2 ^ 32) × (length (varints_text values) < 2 ^ 64) × AllByRecursion (λ v. v < 2 ^ 64) values

-- the bytes before those that a field holds
abbrev pub lead : ℕ → List ℕ → List ℕ
lead number bytes = varint_bytes (8 * number + 2) ++ varint_bytes (length bytes)

abbrev pub number_field : ℕ → ℕ → ℕ → Field
number_field at number value = record { number = number; wire = 0; value = value; start = at + length (varint_bytes (8 * number)); end = at + length (part_text (Part.Number number value)); next = at + length (part_text (Part.Number number value)) }

abbrev pub bytes_field_at : ℕ → ℕ → List ℕ → Field
bytes_field_at at number bytes = record { number = number; wire = 2; value = length bytes; start = at + length (lead number bytes); end = at + length (bytes_field number bytes); next = at + length (bytes_field number bytes) }

-- the fields that parts are from a place on
abbrev pub spots_of : ℕ → List Part → List Spot
spots_of at [] = []
spots_of at (Part.Number number value ∷ parts) = record { key = at; field = number_field at number value } ∷ spots_of (at + length (part_text (Part.Number number value))) parts
spots_of at (Part.Bytes number bytes ∷ parts) = record { key = at; field = bytes_field_at at number bytes } ∷ spots_of (at + length (bytes_field number bytes)) parts
spots_of at (Part.Packed number [] ∷ parts) = spots_of at parts
spots_of at (Part.Packed number (v ∷ vs) ∷ parts) = record { key = at; field = bytes_field_at at number (varints_text (v ∷ vs)) } ∷ spots_of (at + length (bytes_field number (varints_text (v ∷ vs)))) parts

-- a text that stands at a place: what stands behind it, how much room they take, and that it is read there
pub behind : (bytes text tail : List ℕ) (at : ℕ) → drop at bytes ≡ text ++ tail → drop (at + length text) bytes ≡ tail
behind bytes text tail at e = sym (drop-drop (length text) at bytes) ∙ ap (drop (length text)) e ∙ drop_at text tail (length text) refl

pub room_of : (bytes text tail : List ℕ) (at : ℕ) → drop at bytes ≡ text ++ tail → length bytes - at ≡ length text + length tail
room_of bytes text tail at e = sym (length-drop at bytes) ∙ ap length e ∙ length-append text tail

pub text_there : (bytes text tail : List ℕ) (at : ℕ) → drop at bytes ≡ text ++ tail → drop at (take (at + length text) bytes) ≡ text
text_there bytes text tail at e = drop-take at (length text) bytes ∙ ap (take (length text)) e ∙ take_at text tail (length text) refl

-- what a field holds
pub content_there : (bytes content tail : List ℕ) (number at : ℕ) → drop at bytes ≡ bytes_field number content ++ tail → drop (at + length (lead number content)) (take (at + length (bytes_field number content)) bytes) ≡ content
unfolding bytes_field
content_there bytes content tail number at e =
    let first = lead number content in
    let split : varint_bytes (8 * number + 2) ++ (varint_bytes (length content) ++ content) ≡ first ++ content = sym (append_assoc (varint_bytes (8 * number + 2)) (varint_bytes (length content)) content) in
    let end : at + length (varint_bytes (8 * number + 2) ++ (varint_bytes (length content) ++ content)) ≡ at + length first + length content = rw split (omega (arith, length-append first content)) in
    rw end (text_there bytes content tail (at + length first) (behind bytes first (content ++ tail) at (e ∙ ap (λ l. l ++ tail) split ∙ append_assoc first content tail)))

-- a varint has at least one byte
pub varint_some : (value : ℕ) → 0 < length (varint_bytes value)
unfolding varint_bytes
varint_some value = by_test (ltb value 128) refl
  where
    by_test : (t : Bool) → ltb value 128 ≡ t → 0 < length (bytes_in 10 value)
    by_test true e = rw e (omega arith)
    by_test false e = rw e (omega arith)

pub bytes_some : (number : ℕ) (content : List ℕ) → length content < length (bytes_field number content)
unfolding bytes_field
bytes_some number content = omega (arith, varint_some (8 * number + 2), length-append {A = ℕ})

-- a varint that stands at a place
pub varint_there : (bytes tail : List ℕ) (at value : ℕ) → value < 2 ^ 64 → drop at bytes ≡ varint_bytes value ++ tail → varint_at bytes at ≡ Ok (value, at + length (varint_bytes value))
varint_there bytes tail at value small e =
    let some = varint_some value in
    let room = room_of bytes (varint_bytes value) tail at e in
    let whole : take at bytes ++ (varint_bytes value ++ tail) ≡ bytes = ap (λ l. take at bytes ++ l) (sym e) ∙ take-append-drop at bytes in
    let place : length (take at bytes) ≡ at = length-take-le at bytes (omega arith) in
    rw (whole, place) at (read_at (take at bytes) tail value small)

value_fits : (bytes : List ℕ) (number wire value start size end : ℕ) → start + size ≡ end → end ≤ length bytes → value_of bytes number wire value start size ≡ Ok (record { number = number; wire = wire; value = value; start = start; end = end; next = end })
unfolding value_of
value_fits bytes number wire value start size end sum inside = rw (sum, le-leb end (length bytes) inside) refl

number_there : (bytes tail : List ℕ) (at number value : ℕ) → 0 < number → number < 2 ^ 32 → value < 2 ^ 64 → drop at bytes ≡ part_text (Part.Number number value) ++ tail → field_of bytes at ≡ Ok (number_field at number value)
unfolding field_of behind_key
number_there bytes tail at number value some small fits e =
    let key = varint_bytes (8 * number) in
    let val = varint_bytes value in
    let here : drop at bytes ≡ key ++ (val ++ tail) = e ∙ append_assoc key val tail in
    let first = varint_there bytes (val ++ tail) at (8 * number) (omega arith) here in
    let second = varint_there bytes tail (at + length key) value fits (behind bytes key (val ++ tail) at here) in
    let number_is : 8 * number / 8 ≡ number = omega arith in
    let wire_is : 8 * number % 8 ≡ 0 = omega arith in
    let both = length-append key val in
    let room = room_of bytes (key ++ val) tail at e in
    let one = varint_some value in
    rw (first, number_is, wire_is, ne_eqb number 0 (λ z. absurd (omega arith)), second) (value_fits bytes number 0 value (at + length key) _ (at + length (key ++ val)) (omega arith) (omega arith))

bytes_there : (bytes tail : List ℕ) (at number : ℕ) (content : List ℕ) → 0 < number → number < 2 ^ 32 → length content < 2 ^ 64 → drop at bytes ≡ bytes_field number content ++ tail → field_of bytes at ≡ Ok (bytes_field_at at number content)
unfolding bytes_field field_of behind_key
bytes_there bytes tail at number content some small fits e =
    let key = varint_bytes (8 * number + 2) in
    let size = varint_bytes (length content) in
    let here : drop at bytes ≡ key ++ (size ++ (content ++ tail)) = e ∙ simp append_assoc in
    let first = varint_there bytes (size ++ (content ++ tail)) at (8 * number + 2) (omega arith) here in
    let second = varint_there bytes (content ++ tail) (at + length key) (length content) fits (behind bytes key (size ++ (content ++ tail)) at here) in
    let number_is : (8 * number + 2) / 8 ≡ number = omega arith in
    let wire_is : (8 * number + 2) % 8 ≡ 2 = omega arith in
    let both = length-append key size in
    let all = length-append key (size ++ content) in
    let most = length-append size content in
    let room = room_of bytes (key ++ (size ++ content)) tail at e in
    let one = varint_some (8 * number + 2) in
    let start : at + length key + length size ≡ at + length (key ++ size) = omega arith in
    rw (first, number_is, wire_is, ne_eqb number 0 (λ z. absurd (omega arith)), second, start) (value_fits bytes number 2 (length content) (at + length (key ++ size)) (length content) (at + length (key ++ (size ++ content))) (omega arith) (omega arith))

-- the fields from a place on, however many may be read
abbrev IsRun : List ℕ → ℕ → List Spot → Type 0
IsRun bytes at fields = (most : ℕ) → length bytes ≤ at + most → run_from most bytes at ≡ record { fields = fields; bad = None }

run_none : (bytes : List ℕ) (at : ℕ) → length bytes ≤ at → IsRun bytes at []
run_none bytes at end zero room = refl
run_none bytes at end (suc most) room = rw (le-ltb at (length bytes) end) refl

-- a field, and the run behind it
run_more : (bytes text tail : List ℕ) (at : ℕ) (field : Field) (more : List Spot) → drop at bytes ≡ text ++ tail → 0 < length text → field_of bytes at ≡ Ok field → field.next ≡ at + length text → IsRun bytes (at + length text) more → IsRun bytes at (record { key = at; field = field } ∷ more)
run_more bytes text tail at field more e some is next rest zero room = absurd (omega (arith, room_of bytes text tail at e))
run_more bytes text tail at field more e some is next rest (suc most) room =
    let long = room_of bytes text tail at e in
    rw (lt-ltb at (length bytes) (omega arith), is, next, rest most (omega arith)) refl

bytes_more : (bytes tail : List ℕ) (at number : ℕ) (content : List ℕ) (more : List Spot) → 0 < number → number < 2 ^ 32 → length content < 2 ^ 64 → drop at bytes ≡ bytes_field number content ++ tail → IsRun bytes (at + length (bytes_field number content)) more → IsRun bytes at (record { key = at; field = bytes_field_at at number content } ∷ more)
bytes_more bytes tail at number content more some small fits e rest = run_more bytes (bytes_field number content) tail at (bytes_field_at at number content) more e (omega (arith, bytes_some number content)) (bytes_there bytes tail at number content some small fits e) refl rest

-- the parts of a message are its fields, and there is nothing bad
run_all : (parts : List Part) (bytes : List ℕ) (at : ℕ) → AllByRecursion IsPart parts → drop at bytes ≡ message_text parts → IsRun bytes at (spots_of at parts)
run_all [] bytes at good e = run_none bytes at (omega (arith, length-drop at bytes, ap length e))
run_all (Part.Number number value ∷ parts) bytes at good e =
    let text = part_text (Part.Number number value) in
    let some : 0 < length text = omega (arith, varint_some value, length-append {A = ℕ}) in
    run_more bytes text (message_text parts) at (number_field at number value) _ e some (number_there bytes (message_text parts) at number value good.0.0 good.0.1 good.0.2 e) refl (run_all parts bytes (at + length text) good.1 (behind bytes text (message_text parts) at e))
run_all (Part.Bytes number content ∷ parts) bytes at good e =
    bytes_more bytes (message_text parts) at number content _ good.0.0 good.0.1 good.0.2 e (run_all parts bytes (at + length (bytes_field number content)) good.1 (behind bytes (bytes_field number content) (message_text parts) at e))
run_all (Part.Packed number [] ∷ parts) bytes at good e = run_all parts bytes at good.1 e
run_all (Part.Packed number (v ∷ vs) ∷ parts) bytes at good e =
    let content = varints_text (v ∷ vs) in
    bytes_more bytes (message_text parts) at number content _ good.0.0 good.0.1 good.0.2 e (run_all parts bytes (at + length (bytes_field number content)) good.1 (behind bytes (bytes_field number content) (message_text parts) at e))

-- a message to the end of the bytes
pub message_read : (parts : List Part) (bytes : List ℕ) (at : ℕ) → AllByRecursion IsPart parts → drop at bytes ≡ message_text parts → run_of bytes at ≡ record { fields = spots_of at parts; bad = None }
unfolding run_of
message_read parts bytes at good e = run_all parts bytes at good e (length bytes) (omega arith)
