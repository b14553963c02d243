-- A varint, written byte by byte and read again.
use Rattle.std.proofs.lemmas.Bool.Decides.{nat_tests}
use Rattle.std.proofs.Math.Nat.{pow-suc}
use Rattle.std.proofs.Common.{◌≡◌, ◌∙◌, ℕ, ◌+◌, ◌-◌, ◌*◌, ◌/◌, ◌%◌, ◌^◌, ◌<◌, ◌≤◌, zero, suc, List, take, ap, [], ◌∷◌, ◌++◌, length, Ok, true, false, ltb, leb, eqb, refl, sym, add-one, arith, append_assoc, append-nil, length-append, Bool}
use Rattle.std.proofs.Math.Seq.{drop-append_seam}
use Rattle.std.proofs.lemmas.List.{take_at}
use Rattle.pbf_wire.specs.Wire.{varint_in, varint_front, varint_at, value_of, behind_key, field_of}
use Rattle.pbf_wire.specs.Put.{bytes_in, varint_bytes, bytes_field, Extends}

-- what is put so far, and the bytes of what is left, are the whole
pub record IsPut (front : List ℕ) (left : ℕ) (whole : List ℕ) : Type 0 where
  pub most : ℕ
  pub small : left < 128 ^ suc most
  pub same : front ++ bytes_in (suc most) left ≡ whole

pub start_put : (front : List ℕ) (value : ℕ) → value < 2 ^ 64 → IsPut front value (front ++ varint_bytes value)
unfolding varint_bytes
start_put front value small = record { most = 9; small = omega arith; same = refl }

more_of : (most : ℕ) (front whole : List ℕ) (left : ℕ) → left < 128 ^ suc most → front ++ bytes_in (suc most) left ≡ whole → 128 ≤ left → IsPut (front ++ (left % 128 + 128) ∷ []) (left / 128) whole
more_of zero front whole left small same big = absurd (omega arith)
more_of (suc most) front whole left small same big =
    let test : ltb left 128 ≡ false = grind (arith, nat_tests) in
    let opened = rw test at same in
    let next : 128 ^ suc (suc most) ≡ 128 ^ suc most * 128 = pow-suc 128 (suc most) in
    record { most = most; small = omega arith; same = rw (append_assoc front ((left % 128 + 128) ∷ []) (bytes_in (suc most) (left / 128))) opened }

pub more_put : (front whole : List ℕ) (left : ℕ) → IsPut front left whole → 128 ≤ left → IsPut (front ++ (left % 128 + 128) ∷ []) (left / 128) whole
more_put front whole left p big = more_of p.most front whole left p.small p.same big

pub end_put : (front whole : List ℕ) (left : ℕ) → IsPut front left whole → left < 128 → front ++ left ∷ [] ≡ whole
end_put front whole left p low =
    let test : ltb left 128 ≡ true = grind (arith, nat_tests) in
    rw test at p.same

-- one byte more
cons_back : (most n : ℕ) (bs rest : List ℕ) → 128 ≤ n → varint_in most (bs ++ rest) ≡ Ok (n / 128, length bs) → varint_in (suc most) (((n % 128 + 128) ∷ bs) ++ rest) ≡ Ok (n, length ((n % 128 + 128) ∷ bs))
cons_back most n bs rest big behind =
    let test : ltb (n % 128 + 128) 128 ≡ false = grind (arith, nat_tests) in
    let value : n % 128 + 128 - 128 + 128 * (n / 128) ≡ n = omega arith in
    rw (test, behind, value, add-one) refl

read_by : (t : Bool) (most n : ℕ) (rest : List ℕ) → ltb n 128 ≡ t → ((m : ℕ) → m < 128 ^ suc most → varint_in (suc most) (bytes_in (suc most) m ++ rest) ≡ Ok (m, length (bytes_in (suc most) m))) → n < 128 ^ suc (suc most) →
    varint_in (suc (suc most)) (bytes_in (suc (suc most)) n ++ rest) ≡ Ok (n, length (bytes_in (suc (suc most)) n))
read_by true most n rest test before small = rw (test, test) refl
read_by false most n rest test before small =
    let big : 128 ≤ n = grind (arith, nat_tests) in
    let next : 128 ^ suc (suc most) ≡ 128 ^ suc most * 128 = pow-suc 128 (suc most) in
    let less : n / 128 < 128 ^ suc most = omega arith in
    rw test (cons_back (suc most) n (bytes_in (suc most) (n / 128)) rest big (before (n / 128) less))

read_in : (most n : ℕ) (rest : List ℕ) → n < 128 ^ suc most → varint_in (suc most) (bytes_in (suc most) n ++ rest) ≡ Ok (n, length (bytes_in (suc most) n))
read_in zero n rest small =
    let test : ltb n 128 ≡ true = grind (arith, nat_tests) in
    rw (test, test) refl
read_in (suc most) n rest small = read_by (ltb n 128) most n rest refl (λ m less. read_in most m rest less) small

-- what is put is read
pub read_at : (front rest : List ℕ) (value : ℕ) → value < 2 ^ 64 → varint_at (front ++ (varint_bytes value ++ rest)) (length front) ≡ Ok (value, length front + length (varint_bytes value))
unfolding varint_bytes varint_front varint_at
read_at front rest value small =
    let inside : varint_in 10 (bytes_in 10 value ++ rest) ≡ Ok (value, length (bytes_in 10 value)) = read_in 9 value rest (omega arith) in
    let kept : value % 2 ^ 64 ≡ value = omega arith in
    rw (drop-append_seam, inside, kept) refl

pub read_back : (front : List ℕ) (value : ℕ) → value < 2 ^ 64 → varint_at (front ++ varint_bytes value) (length front) ≡ Ok (value, length (front ++ varint_bytes value))
read_back front value small =
    let here : varint_at (front ++ (varint_bytes value ++ [])) (length front) ≡ Ok (value, length front + length (varint_bytes value)) = read_at front [] value small in
    let same : varint_at (front ++ varint_bytes value) (length front) ≡ Ok (value, length front + length (varint_bytes value)) = (rw (append-nil (varint_bytes value)) at here) in
    rw (length-append front (varint_bytes value)) same

-- a value that fits stands there
value_back : (all : List ℕ) (number value start size end : ℕ) → start + size ≡ end → end ≡ length all → value_of all number 2 value start size ≡ Ok (record { number = number; wire = 2; value = value; start = start; end = end; next = end })
unfolding value_of
value_back all number value start size end sum whole =
    let test : leb (start + size) (length all) ≡ true = grind (arith, nat_tests) in
    rw (test, sum) refl

key_back : (all : List ℕ) (number at start size end : ℕ) → 0 < number → varint_at all at ≡ Ok (size, start) → start + size ≡ end → end ≡ length all → behind_key all number 2 at ≡ Ok (record { number = number; wire = 2; value = size; start = start; end = end; next = end })
unfolding behind_key
key_back all number at start size end some is sum whole =
    let test : eqb number 0 ≡ false = grind (arith, nat_tests) in
    rw (test, is) (value_back all number size start size end sum whole)

-- a field that is put is read
pub field_back : (front bytes : List ℕ) (number : ℕ) → 0 < number → number < 2 ^ 32 → length bytes < 2 ^ 64 →
    field_of (front ++ bytes_field number bytes) (length front) ≡ Ok (record { number = number; wire = 2; value = length bytes; start = length (front ++ bytes_field number bytes) - length bytes; end = length (front ++ bytes_field number bytes); next = length (front ++ bytes_field number bytes) })
unfolding field_of bytes_field
field_back front bytes number some small fits =
    let key = varint_bytes (8 * number + 2) in
    let size = varint_bytes (length bytes) in
    let all = front ++ (key ++ (size ++ bytes)) in
    let first : varint_at all (length front) ≡ Ok (8 * number + 2, length front + length key) = read_at front (size ++ bytes) (8 * number + 2) (omega arith) in
    let there : varint_at ((front ++ key) ++ (size ++ bytes)) (length (front ++ key)) ≡ Ok (length bytes, length (front ++ key) + length size) = read_at (front ++ key) bytes (length bytes) fits in
    let second : varint_at all (length front + length key) ≡ Ok (length bytes, length front + length key + length size) = (rw (append_assoc front key (size ++ bytes), length-append front key) at there) in
    let whole : length all ≡ length front + length key + length size + length bytes = rw (length-append front (key ++ (size ++ bytes)), length-append key (size ++ bytes), length-append size bytes) (omega arith) in
    let start : length front + length key + length size ≡ length all - length bytes = omega arith in
    let number_is : (8 * number + 2) / 8 ≡ number = omega arith in
    let wire_is : (8 * number + 2) % 8 ≡ 2 = omega arith in
    let read : behind_key all number 2 (length front + length key) ≡ Ok (record { number = number; wire = 2; value = length bytes; start = length all - length bytes; end = length all; next = length all }) =
    key_back all number (length front + length key) (length all - length bytes) (length bytes) (length all) some (rw start at second) (omega arith) refl in
    rw (first, number_is, wire_is) read

pub field_put : (front bytes : List ℕ) (number : ℕ) → ((front ++ varint_bytes (8 * number + 2)) ++ varint_bytes (length bytes)) ++ bytes ≡ front ++ bytes_field number bytes
unfolding bytes_field
field_put front bytes number = simp append_assoc

pub extends_none : (old : List ℕ) → Extends old old
extends_none old = record { more = []; joined = sym (append-nil old) }

pub extends_more : (old new bytes : List ℕ) → Extends old new → Extends old (new ++ bytes)
extends_more old new bytes e = record { more = e.more ++ bytes; joined = rw e.joined (append_assoc old e.more bytes) }

pub extends_front : (old bytes new : List ℕ) → Extends (old ++ bytes) new → Extends old new
extends_front old bytes new e = record { more = bytes ++ e.more; joined = e.joined ∙ append_assoc old bytes e.more }

-- what was put behind the old bytes is cut off again
pub extends_cut : (old new : List ℕ) → Extends old new → take (length old) new ≡ old
extends_cut old new e = ap (take (length old)) e.joined ∙ take_at old e.more (length old) refl
