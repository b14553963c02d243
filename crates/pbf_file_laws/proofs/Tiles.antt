-- Where a message is a run of fields, they tile its bytes.
use Rattle.std.proofs.Common.{◌≡◌, ℕ, zero, suc, ◌+◌, ◌-◌, ◌*◌, ◌/◌, ◌%◌, ◌^◌, ◌<◌, ◌≤◌, List, [], ◌∷◌, length, drop, take, Some, None, Result, Ok, Err, Bool, true, false, ltb, leb, eqb, refl, sym, ap, subst, arith}
use Rattle.std.proofs.lemmas.Bool.Decides.{nat_tests}
use Rattle.std.proofs.lemmas.Bool.{eqb-true}
use Rattle.pbf_wire.specs.declared.wire.WireKind.{WireKind}
use Rattle.pbf_wire.specs.declared.wire.WireKind.TheVariants.{End}
use Rattle.pbf_wire.specs.declared.wire.Field.{Field}
use Rattle.pbf_wire.specs.Wire.{◌>>=◌, varint_in, varint_front, varint_at, little_endian, value_of, behind_key, field_of}
use Rattle.pbf_wire.specs.Runs.{run_from, run_of}
use Rattle.pbf_file_laws.specs.Tiling.{IsFramed, IsTile, Tile, FieldsTile}

-- the value of the first step, where both gave one
record First {A B K : Type 0} (r : Result A K) (f : A → Result B K) (y : B) : Type 0 where
  x : A
  is : r ≡ Ok x
  then : f x ≡ Ok y

first_value : {A B K : Type 0} (r : Result A K) (f : A → Result B K) (y : B) → (r >>= f) ≡ Ok y → First r f y
first_value (Ok x) f y e = record { x = x; is = refl; then = e }
first_value (Err k) f y e = cc

-- a field whose value fits
record Fits (bytes : List ℕ) (number wire value start size : ℕ) (field : Field) : Type 0 where
  number_is : field.number ≡ number
  wire_is : field.wire ≡ wire
  value_is : field.value ≡ value
  start_is : field.start ≡ start
  end_is : field.end ≡ start + size
  next_is : field.next ≡ start + size
  inside : start + size ≤ length bytes

fits : (bytes : List ℕ) (number wire value start size : ℕ) (field : Field) → value_of bytes number wire value start size ≡ Ok field → Fits bytes number wire value start size field
unfolding value_of
fits bytes number wire value start size field e = by (leb (start + size) (length bytes)) refl
  where
    by : (t : Bool) → leb (start + size) (length bytes) ≡ t → Fits bytes number wire value start size field
    by true test =
        let opened : Ok (record { number = number; wire = wire; value = value; start = start; end = start + size; next = start + size }) ≡ Ok field = rw test at e in
        let same : record { number = number; wire = wire; value = value; start = start; end = start + size; next = start + size } ≡ field = cc in
        record {
          number_is = sym (ap (λ (f : Field). f.number) same);
          wire_is = sym (ap (λ (f : Field). f.wire) same);
          value_is = sym (ap (λ (f : Field). f.value) same);
          start_is = sym (ap (λ (f : Field). f.start) same);
          end_is = sym (ap (λ (f : Field). f.end) same);
          next_is = sym (ap (λ (f : Field). f.next) same);
          inside = grind (arith, nat_tests);
        }
    by false test =
        let opened : Err End ≡ Ok field = rw test at e in
        cc

abbrev given : ℕ × ℕ → Result (ℕ × ℕ) WireKind
given x = Ok x

ok_same : (x y : ℕ × ℕ) → given x ≡ given y → x ≡ y
ok_same x y e = cc

-- a varint takes at least one byte
some_bytes : (most : ℕ) (bytes : List ℕ) (r : ℕ × ℕ) → varint_in most bytes ≡ Ok r → 0 < r.1
some_bytes zero bytes r e = cc
some_bytes (suc most) [] r e = cc
some_bytes (suc most) (b ∷ bytes) r e = by (ltb b 128) refl
  where
    by : (t : Bool) → ltb b 128 ≡ t → 0 < r.1
    by true test =
        let opened = rw test at e in
        let size : 1 ≡ r.1 = ap (λ (p : ℕ × ℕ). p.1) (ok_same (b, 1) r opened) in
        omega arith
    by false test =
        let opened = rw test at e in
        let found = first_value (varint_in most bytes) (λ q. Ok (b - 128 + 128 * q.0, q.1 + 1)) r opened in
        let size : found.x.1 + 1 ≡ r.1 = ap (λ (p : ℕ × ℕ). p.1) (ok_same (b - 128 + 128 * found.x.0, found.x.1 + 1) r found.then) in
        omega arith

up : (bytes : List ℕ) (at : ℕ) (r : ℕ × ℕ) → varint_at bytes at ≡ Ok r → at < r.1
unfolding varint_at varint_front
up bytes at r e =
    let whole = first_value (varint_front (drop at bytes)) (λ q. Ok (q.0, at + q.1)) r e in
    let inside = first_value (varint_in 10 (drop at bytes)) (λ q. Ok (q.0 % 2 ^ 64, q.1)) whole.x whole.is in
    let some = some_bytes 10 (drop at bytes) inside.x inside.is in
    let one : inside.x.1 ≡ whole.x.1 = ap (λ (p : ℕ × ℕ). p.1) (ok_same (inside.x.0 % 2 ^ 64, inside.x.1) whole.x inside.then) in
    let two : at + whole.x.1 ≡ r.1 = ap (λ (p : ℕ × ℕ). p.1) (ok_same (whole.x.0, at + whole.x.1) r whole.then) in
    omega arith

read_as : (r : Result (ℕ × ℕ) WireKind) (x : ℕ × ℕ) (a b : ℕ) → r ≡ Ok x → a ≡ x.0 → b ≡ x.1 → r ≡ Ok (a, b)
read_as r x a b e f g = rw (f, g) e

-- what stands behind a key
record Behind (bytes : List ℕ) (number wire from : ℕ) (field : Field) : Type 0 where
  number_is : field.number ≡ number
  wire_is : field.wire ≡ wire
  framed : IsFramed bytes field from
  later : from ≤ field.start
  up : field.start ≤ field.end
  next : field.next ≡ field.end
  inside : field.end ≤ length bytes

varint_case : (bytes : List ℕ) (number from : ℕ) (field : Field) → (varint_at bytes from >>= λ v. value_of bytes number 0 v.0 from (v.1 - from)) ≡ Ok field → Behind bytes number 0 from field
varint_case bytes number from field e =
    let found = first_value (varint_at bytes from) (λ v. value_of bytes number 0 v.0 from (v.1 - from)) field e in
    let more = up bytes from found.x found.is in
    let f = fits bytes number 0 found.x.0 from (found.x.1 - from) field found.then in
    let starts = f.start_is in
    let ends = f.end_is in
    let nexts = f.next_is in
    let inside = f.inside in
    let end : field.end ≡ found.x.1 = omega arith in
    let read : varint_at bytes from ≡ Ok (field.value, field.end) = read_as (varint_at bytes from) found.x field.value field.end found.is f.value_is end in
    record { number_is = f.number_is; wire_is = f.wire_is; framed = IsFramed.Varint f.wire_is f.start_is read; later = omega arith; up = omega arith; next = omega arith; inside = omega arith }

bytes_case : (bytes : List ℕ) (number from : ℕ) (field : Field) → (varint_at bytes from >>= λ v. value_of bytes number 2 v.0 v.1 v.0) ≡ Ok field → Behind bytes number 2 from field
bytes_case bytes number from field e =
    let found = first_value (varint_at bytes from) (λ v. value_of bytes number 2 v.0 v.1 v.0) field e in
    let more = up bytes from found.x found.is in
    let f = fits bytes number 2 found.x.0 found.x.1 found.x.0 field found.then in
    let starts = f.start_is in
    let ends = f.end_is in
    let nexts = f.next_is in
    let inside = f.inside in
    let size : field.end - field.start ≡ found.x.0 = omega arith in
    let read : varint_at bytes from ≡ Ok (field.end - field.start, field.start) = read_as (varint_at bytes from) found.x (field.end - field.start) field.start found.is size f.start_is in
    record { number_is = f.number_is; wire_is = f.wire_is; framed = IsFramed.Bytes f.wire_is read; later = omega arith; up = omega arith; next = omega arith; inside = omega arith }

eight_case : (bytes : List ℕ) (number from value : ℕ) (field : Field) → value_of bytes number 1 value from 8 ≡ Ok field → Behind bytes number 1 from field
eight_case bytes number from value field e =
    let f = fits bytes number 1 value from 8 field e in
    let starts = f.start_is in
    let ends = f.end_is in
    let nexts = f.next_is in
    let inside = f.inside in
    record { number_is = f.number_is; wire_is = f.wire_is; framed = IsFramed.Eight f.wire_is f.start_is f.end_is; later = omega arith; up = omega arith; next = omega arith; inside = omega arith }

four_case : (bytes : List ℕ) (number from value : ℕ) (field : Field) → value_of bytes number 5 value from 4 ≡ Ok field → Behind bytes number 5 from field
four_case bytes number from value field e =
    let f = fits bytes number 5 value from 4 field e in
    let starts = f.start_is in
    let ends = f.end_is in
    let nexts = f.next_is in
    let inside = f.inside in
    record { number_is = f.number_is; wire_is = f.wire_is; framed = IsFramed.Four f.wire_is f.start_is f.end_is; later = omega arith; up = omega arith; next = omega arith; inside = omega arith }

-- by wire type
by_wire : (t0 t1 t2 t5 : Bool) (bytes : List ℕ) (number wire from : ℕ) (field : Field) → eqb wire 0 ≡ t0 → eqb wire 1 ≡ t1 → eqb wire 2 ≡ t2 → eqb wire 5 ≡ t5 → eqb number 0 ≡ false → behind_key bytes number wire from ≡ Ok field → Behind bytes number wire from field
unfolding behind_key
by_wire true t1 t2 t5 bytes number wire from field e0 e1 e2 e5 some e =
    let is : wire ≡ 0 = eqb-true wire 0 e0 in
    let opened = rw (some, is) at e in
    subst (λ (w : ℕ). Behind bytes number w from field) (sym is) (varint_case bytes number from field opened)
by_wire false true t2 t5 bytes number wire from field e0 e1 e2 e5 some e =
    let is : wire ≡ 1 = eqb-true wire 1 e1 in
    let opened = rw (some, is) at e in
    subst (λ (w : ℕ). Behind bytes number w from field) (sym is) (eight_case bytes number from (little_endian (take 8 (drop from bytes))) field opened)
by_wire false false true t5 bytes number wire from field e0 e1 e2 e5 some e =
    let is : wire ≡ 2 = eqb-true wire 2 e2 in
    let opened = rw (some, is) at e in
    subst (λ (w : ℕ). Behind bytes number w from field) (sym is) (bytes_case bytes number from field opened)
by_wire false false false true bytes number wire from field e0 e1 e2 e5 some e =
    let is : wire ≡ 5 = eqb-true wire 5 e5 in
    let opened = rw (some, is) at e in
    subst (λ (w : ℕ). Behind bytes number w from field) (sym is) (four_case bytes number from (little_endian (take 4 (drop from bytes))) field opened)
by_wire false false false false bytes number wire from field e0 e1 e2 e5 some e =
    let opened = rw (some, e0, e1, e2, e5) at e in
    cc

record Numbered (bytes : List ℕ) (number wire from : ℕ) (field : Field) : Type 0 where
  some : 0 < number
  behind : Behind bytes number wire from field

by_number : (t : Bool) (bytes : List ℕ) (number wire from : ℕ) (field : Field) → eqb number 0 ≡ t → behind_key bytes number wire from ≡ Ok field → Numbered bytes number wire from field
unfolding behind_key
by_number true bytes number wire from field test e =
    let opened = rw test at e in
    cc
by_number false bytes number wire from field test e =
    record { some = grind (arith, nat_tests); behind = by_wire (eqb wire 0) (eqb wire 1) (eqb wire 2) (eqb wire 5) bytes number wire from field refl refl refl refl test e }

-- a field that is read is a tile, and takes at least one byte
record Tiled (bytes : List ℕ) (at : ℕ) (field : Field) : Type 0 where
  tile : IsTile bytes at field
  more : at < field.end

field_tiles : (bytes : List ℕ) (at : ℕ) (field : Field) → field_of bytes at ≡ Ok field → Tiled bytes at field
unfolding field_of
field_tiles bytes at field e =
    let found = first_value (varint_at bytes at) (λ key. behind_key bytes (key.0 / 8) (key.0 % 8) key.1) field e in
    let key = found.x.0 in
    let from = found.x.1 in
    let more = up bytes at found.x found.is in
    let all = by_number (eqb (key / 8) 0) bytes (key / 8) (key % 8) from field refl found.then in
    let b = all.behind in
    let number = b.number_is in
    let wire = b.wire_is in
    let some = all.some in
    let later = b.later in
    let ends = b.up in
    record {
      tile = record { key = key; behind = from; key_is = found.is; says = omega arith; some = omega arith; framed = b.framed; up = b.up; next = b.next; inside = b.inside };
      more = omega arith;
    }

-- what the fields behind this one do
abbrev BehindTile : ℕ → List ℕ → Type 0
BehindTile most bytes = (next : ℕ) → next ≤ length bytes → length bytes ≤ next + most → (run_from most bytes next).bad ≡ None → Tile bytes (run_from most bytes next).fields next

next_tile : (r : Result Field WireKind) (most : ℕ) (bytes : List ℕ) (at : ℕ) → field_of bytes at ≡ r → ltb at (length bytes) ≡ true → length bytes ≤ at + suc most → BehindTile most bytes → (run_from (suc most) bytes at).bad ≡ None → Tile bytes (run_from (suc most) bytes at).fields at
next_tile (Ok field) most bytes at is test room behind fine =
    let tiled = field_tiles bytes at field is in
    let next = tiled.tile.next in
    let more = tiled.more in
    let ends = tiled.tile.inside in
    let rest_fine : (run_from most bytes field.end).bad ≡ None = rw (test, is, next) at fine in
    let rest = behind field.end ends (omega arith) rest_fine in
    let there : Tile bytes (run_from most bytes field.next).fields field.end = subst (λ (n : ℕ). Tile bytes (run_from most bytes n).fields field.end) (sym next) rest in
    rw (test, is) (refl, tiled.tile, there)
next_tile (Err kind) most bytes at is test room behind fine =
    let opened : Some at ≡ None = rw (test, is) at fine in
    cc

tile_by : (t : Bool) (most : ℕ) (bytes : List ℕ) (at : ℕ) → ltb at (length bytes) ≡ t → at ≤ length bytes → length bytes ≤ at + suc most → BehindTile most bytes → (run_from (suc most) bytes at).bad ≡ None → Tile bytes (run_from (suc most) bytes at).fields at
tile_by false most bytes at test inside room behind fine =
    let end : at ≡ length bytes = grind (arith, nat_tests) in
    rw test end
tile_by true most bytes at test inside room behind fine = next_tile (field_of bytes at) most bytes at refl test room behind fine

tiles_all : (most : ℕ) (bytes : List ℕ) (at : ℕ) → at ≤ length bytes → length bytes ≤ at + most → (run_from most bytes at).bad ≡ None → Tile bytes (run_from most bytes at).fields at
tiles_all zero bytes at inside room fine = omega arith
tiles_all (suc most) bytes at inside room fine =
    tile_by (ltb at (length bytes)) most bytes at refl inside room (λ next near enough good. tiles_all most bytes next near enough good) fine

pub tiles : FieldsTile
unfolding run_of
tiles bytes at inside fine = tiles_all (length bytes) bytes at inside (omega arith) fine
