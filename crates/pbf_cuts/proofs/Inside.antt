-- What a field holds ends within the bytes.
use Rattle.std.proofs.lemmas.Bool.Decides.{nat_tests}
use Rattle.std.proofs.lemmas.List.Elements.{All-nil, All-cons, All-head, All-tail}
use Rattle.std.proofs.Common.{ℕ, ◌+◌, ◌-◌, ◌/◌, ◌%◌, ◌≤◌, zero, suc, List, [], ◌∷◌, length, take, drop, Bool, true, false, ltb, leb, Option, Some, None, Result, Ok, Err, arith}
use Rattle.std.specs.Prelude.{All, IfOk, IfSome, if◌then◌else◌, ◌==◌}
use Rattle.pbf_wire.specs.declared.wire.Field.{Field}
use Rattle.pbf_wire.specs.declared.wire.WireKind.{WireKind}
use Rattle.pbf_wire.specs.declared.wire.WireKind.TheVariants.{End, Zero, Wire}
use Rattle.pbf_wire.specs.declared.fields.Spot.{Spot}
use Rattle.pbf_wire.specs.declared.fields.Piece.{Piece}
use Rattle.pbf_wire.specs.Wire.{◌>>=◌, varint_at, little_endian, value_of, behind_key, field_of, at_byte}
use Rattle.pbf_wire.specs.Runs.{with_field, run_from, run_of}
use Rattle.pbf_wire.specs.Pieces.{is_bytes, pieces_of, last_piece}
use Rattle.pbf_wire.specs.Blobs.{is_content, last_content}
use Rattle.pbf_cuts.proofs.Steps.{after_step, after_if}

abbrev pub IsFieldInside : List ℕ → Field → Type 0
IsFieldInside bytes field = field.end ≤ length bytes

abbrev pub IsInside : List ℕ → Spot → Type 0
IsInside bytes spot = spot.field.end ≤ length bytes

abbrev pub IsPieceInside : List ℕ → Piece → Type 0
IsPieceInside bytes piece = piece.end ≤ length bytes

value_inside : (bytes : List ℕ) (number wire value start size : ℕ) → IfOk (value_of bytes number wire value start size) (IsFieldInside bytes)
unfolding value_of
value_inside bytes number wire value start size =
    after_if (leb (start + size) (length bytes)) (Ok (record { number = number; wire = wire; value = value; start = start; end = start + size; next = start + size })) (Err End) (IsFieldInside bytes)
    (λ fits. grind (arith, nat_tests)) (λ long. tt)

key_inside : (bytes : List ℕ) (number wire start : ℕ) → IfOk (behind_key bytes number wire start) (IsFieldInside bytes)
unfolding behind_key
key_inside bytes number wire start =
    let Q = IsFieldInside bytes in
    let four = value_of bytes number wire (little_endian (take 4 (drop start bytes))) start 4 in
    let eight = value_of bytes number wire (little_endian (take 8 (drop start bytes))) start 8 in
    let as_five = if wire == 5 then four else Err Wire in
    let bytes_at : ℕ × ℕ → Result Field WireKind = λ v. value_of bytes number wire v.0 v.1 v.0 in
    let as_two = if wire == 2 then (varint_at bytes start >>= bytes_at) else as_five in
    let as_one = if wire == 1 then eight else as_two in
    let number_at : ℕ × ℕ → Result Field WireKind = λ v. value_of bytes number wire v.0 start (v.1 - start) in
    let as_zero = if wire == 0 then (varint_at bytes start >>= number_at) else as_one in
    after_if (number == 0) (Err Zero) as_zero Q (λ e. tt) (λ e.
    after_if (wire == 0) (varint_at bytes start >>= number_at) as_one Q (λ e.
    after_step (varint_at bytes start) number_at Q (λ v is. value_inside bytes number wire v.0 start (v.1 - start))) (λ e.
    after_if (wire == 1) eight as_two Q (λ e. value_inside bytes number wire (little_endian (take 8 (drop start bytes))) start 8) (λ e.
    after_if (wire == 2) (varint_at bytes start >>= bytes_at) as_five Q (λ e.
    after_step (varint_at bytes start) bytes_at Q (λ v is. value_inside bytes number wire v.0 v.1 v.0)) (λ e.
    after_if (wire == 5) four (Err Wire) Q (λ e. value_inside bytes number wire (little_endian (take 4 (drop start bytes))) start 4) (λ e. tt)))))

field_inside : (bytes : List ℕ) (at : ℕ) → IfOk (field_of bytes at) (IsFieldInside bytes)
unfolding field_of
field_inside bytes at =
    after_step (varint_at bytes at) (λ key. behind_key bytes (key.0 / 8) (key.0 % 8) key.1) (IsFieldInside bytes) (λ key is. key_inside bytes (key.0 / 8) (key.0 % 8) key.1)

-- a run, by its first field
by_field : (most at : ℕ) (bytes : List ℕ) (r : Result Field WireKind) → IfOk r (IsFieldInside bytes) → ((next : ℕ) → All (IsInside bytes) (run_from most bytes next).fields) → All (IsInside bytes) (with_field at (at_byte at r) (run_from most bytes)).fields
by_field most at bytes (Ok field) inside behind = All-cons (IsInside bytes) (record { key = at; field = field }) (run_from most bytes field.next).fields inside (behind field.next)
by_field most at bytes (Err kind) inside behind = All-nil (IsInside bytes)

by_test : (t : Bool) (most at : ℕ) (bytes : List ℕ) → All (IsInside bytes) (with_field at (at_byte at (field_of bytes at)) (run_from most bytes)).fields → All (IsInside bytes) (if t then with_field at (at_byte at (field_of bytes at)) (run_from most bytes) else record { fields = []; bad = None }).fields
by_test true most at bytes h = h
by_test false most at bytes h = All-nil (IsInside bytes)

run_inside : (most : ℕ) (bytes : List ℕ) (at : ℕ) → All (IsInside bytes) (run_from most bytes at).fields
run_inside zero bytes at = All-nil (IsInside bytes)
run_inside (suc most) bytes at =
    by_test (ltb at (length bytes)) most at bytes (by_field most at bytes (field_of bytes at) (field_inside bytes at) (λ next. run_inside most bytes next))

pub fields_inside : (bytes : List ℕ) (at : ℕ) → All (IsInside bytes) (run_of bytes at).fields
unfolding run_of
fields_inside bytes at = run_inside (length bytes) bytes at

by_bytes : (t : Bool) (bytes : List ℕ) (spot : Spot) (pieces : List Piece) → IsInside bytes spot → All (IsPieceInside bytes) pieces → All (IsPieceInside bytes) (if t then record { start = spot.field.start; end = spot.field.end } ∷ pieces else pieces)
by_bytes true bytes spot pieces inside all = All-cons (IsPieceInside bytes) (record { start = spot.field.start; end = spot.field.end }) pieces inside all
by_bytes false bytes spot pieces inside all = all

pub pieces_inside : (bytes : List ℕ) (number : ℕ) (spots : List Spot) → All (IsInside bytes) spots → All (IsPieceInside bytes) (pieces_of number spots)
pieces_inside bytes number [] all = All-nil (IsPieceInside bytes)
pieces_inside bytes number (spot ∷ spots) all =
    by_bytes (is_bytes number spot) bytes spot (pieces_of number spots) (All-head (IsInside bytes) spot spots all) (pieces_inside bytes number spots (All-tail (IsInside bytes) spot spots all))

pub last_inside : (bytes : List ℕ) (found : Option Piece) (pieces : List Piece) → IfSome found (IsPieceInside bytes) → All (IsPieceInside bytes) pieces → IfSome (last_piece found pieces) (IsPieceInside bytes)
last_inside bytes found [] here all = here
last_inside bytes found (piece ∷ pieces) here all =
    last_inside bytes (Some piece) pieces (All-head (IsPieceInside bytes) piece pieces all) (All-tail (IsPieceInside bytes) piece pieces all)

by_content : (t : Bool) (bytes : List ℕ) (spot : Spot) (found : Option Spot) → IsInside bytes spot → IfSome found (IsInside bytes) → IfSome (if t then Some spot else found) (IsInside bytes)
by_content true bytes spot found inside here = inside
by_content false bytes spot found inside here = here

pub content_inside : (bytes : List ℕ) (found : Option Spot) (spots : List Spot) → IfSome found (IsInside bytes) → All (IsInside bytes) spots → IfSome (last_content found spots) (IsInside bytes)
content_inside bytes found [] here all = here
content_inside bytes found (spot ∷ spots) here all =
    let next : Option Spot = if is_content spot then Some spot else found in
    content_inside bytes next spots (by_content (is_content spot) bytes spot found (All-head (IsInside bytes) spot spots all) here) (All-tail (IsInside bytes) spot spots all)
