-- A field in any spelling is read, whatever follows it.
use Rattle.std.proofs.Common.{◌≡◌, ◌∙◌, ℕ, ◌+◌, ◌-◌, ◌*◌, ◌/◌, ◌%◌, ◌<◌, ◌≤◌, List, ◌++◌, length, take, drop, Ok, Result, true, false, leb, eqb, refl, sym, ap, subst, arith, append_assoc, length-append}
use Rattle.std.proofs.lemmas.Bool.Decides.{nat_tests}
use Rattle.std.proofs.lemmas.List.{take_at}
use Rattle.pbf_wire.specs.declared.wire.WireKind.{WireKind}
use Rattle.pbf_wire.specs.declared.wire.Field.{Field}
use Rattle.pbf_wire.specs.Wire.{varint_at, value_of, behind_key, field_of, little_endian}
use Rattle.pbf_file_laws.specs.Messages.{IsVarint, varint_text, worth, Value, IsValue, wire_type, value_text}
use Rattle.pbf_file_laws.specs.Reading.{Stands, IsRead, FieldsAreRead}
use Rattle.pbf_file_laws.proofs.Varints.{varint_here, varint_there}

value_fits : (all : List ℕ) (number wire value start size end : ℕ) → start + size ≡ end → end ≤ length all → value_of all number wire value start size ≡ Ok (record { number = number; wire = wire; value = value; start = start; end = end; next = end })
unfolding value_of
value_fits all number wire value start size end sum inside =
    let test : leb (start + size) (length all) ≡ true = grind (arith, nat_tests) in
    rw (test, sum) refl

key_varint : (all : List ℕ) (number start value end : ℕ) → 0 < number → varint_at all start ≡ Ok (value, end) → start ≤ end → end ≤ length all → behind_key all number 0 start ≡ Ok (record { number = number; wire = 0; value = value; start = start; end = end; next = end })
unfolding behind_key
key_varint all number start value end some is up inside =
    let test : eqb number 0 ≡ false = grind (arith, nat_tests) in
    rw (test, is) (value_fits all number 0 value start (end - start) end (omega arith) inside)

key_bytes : (all : List ℕ) (number at start size end : ℕ) → 0 < number → varint_at all at ≡ Ok (size, start) → start + size ≡ end → end ≤ length all → behind_key all number 2 at ≡ Ok (record { number = number; wire = 2; value = size; start = start; end = end; next = end })
unfolding behind_key
key_bytes all number at start size end some is sum inside =
    let test : eqb number 0 ≡ false = grind (arith, nat_tests) in
    rw (test, is) (value_fits all number 2 size start size end sum inside)

key_eight : (all : List ℕ) (number start end : ℕ) → 0 < number → start + 8 ≡ end → end ≤ length all → behind_key all number 1 start ≡ Ok (record { number = number; wire = 1; value = little_endian (take 8 (drop start all)); start = start; end = end; next = end })
unfolding behind_key
key_eight all number start end some sum inside =
    let test : eqb number 0 ≡ false = grind (arith, nat_tests) in
    rw test (value_fits all number 1 (little_endian (take 8 (drop start all))) start 8 end sum inside)

key_four : (all : List ℕ) (number start end : ℕ) → 0 < number → start + 4 ≡ end → end ≤ length all → behind_key all number 5 start ≡ Ok (record { number = number; wire = 5; value = little_endian (take 4 (drop start all)); start = start; end = end; next = end })
unfolding behind_key
key_four all number start end some sum inside =
    let test : eqb number 0 ≡ false = grind (arith, nat_tests) in
    rw test (value_fits all number 5 (little_endian (take 4 (drop start all))) start 4 end sum inside)

field_by : (all : List ℕ) (at key start number wire : ℕ) (r : Result Field WireKind) → varint_at all at ≡ Ok (key, start) → key / 8 ≡ number → key % 8 ≡ wire → behind_key all number wire start ≡ r → field_of all at ≡ r
unfolding field_of
field_by all at key start number wire r is n w behind = rw (is, n, w) behind

-- the bytes that a field holds stand where they are read
content_stands : (front key size content rest : List ℕ) (start end : ℕ) → start ≡ length front + length key + length size → end ≡ start + length content → Stands (take end (front ++ (key ++ (size ++ (content ++ rest))))) start content
content_stands front key size content rest start end s e =
    let lead = front ++ (key ++ size) in
    let whole : front ++ (key ++ (size ++ (content ++ rest))) ≡ (lead ++ content) ++ rest = simp append_assoc in
    let one : length lead ≡ length front + length (key ++ size) = length-append front (key ++ size) in
    let two : length (key ++ size) ≡ length key + length size = length-append key size in
    let long : length (lead ++ content) ≡ length lead + length content = length-append lead content in
    let taken : take end ((lead ++ content) ++ rest) ≡ lead ++ content = take_at (lead ++ content) rest end (omega arith) in
    record { before = lead; whole = ap (take end) whole ∙ taken; place = omega arith }

-- what stands behind a key
behind : (front rest : List ℕ) (number : ℕ) (key : List ℕ) (value : Value) → 0 < number → IsVarint key → worth key ≡ 8 * number + wire_type value → IsValue value →
    IsRead (front ++ (varint_text key ++ (value_text value ++ rest))) (length front) (record { number = number; key = key; value = value })
behind front rest number key (Value.Varint groups) some is says good =
    let k = varint_text key in
    let v = varint_text groups in
    let all = front ++ (k ++ (v ++ rest)) in
    let first : varint_at all (length front) ≡ Ok (worth key, length front + length k) = varint_here front (v ++ rest) key is in
    let second : varint_at all (length front + length k) ≡ Ok (worth groups, length front + length k + length v) = varint_there front k rest groups (length front + length k) good refl in
    let size : length (k ++ v) ≡ length k + length v = length-append k v in
    let whole : length all ≡ length front + (length k + (length v + length rest)) = rw (length-append front (k ++ (v ++ rest)), length-append k (v ++ rest), length-append v rest) refl in
    let end = length front + length k + length v in
    let field : Field = record { number = number; wire = 0; value = worth groups; start = length front + length k; end = end; next = end } in
    let read = field_by all (length front) (worth key) (length front + length k) number 0 (Ok field) first (omega arith) (omega arith) (key_varint all number (length front + length k) (worth groups) end some second (omega arith) (omega arith)) in
    record { field = field; read = read; is = record { number = refl; value = (refl, refl) }; next = omega arith }
behind front rest number key (Value.Eight bytes) some is says good =
    let k = varint_text key in
    let all = front ++ (k ++ (bytes ++ rest)) in
    let first : varint_at all (length front) ≡ Ok (worth key, length front + length k) = varint_here front (bytes ++ rest) key is in
    let size : length (k ++ bytes) ≡ length k + length bytes = length-append k bytes in
    let whole : length all ≡ length front + (length k + (length bytes + length rest)) = rw (length-append front (k ++ (bytes ++ rest)), length-append k (bytes ++ rest), length-append bytes rest) refl in
    let end = length front + length k + length bytes in
    let field : Field = record { number = number; wire = 1; value = little_endian (take 8 (drop (length front + length k) all)); start = length front + length k; end = end; next = end } in
    let read = field_by all (length front) (worth key) (length front + length k) number 1 (Ok field) first (omega arith) (omega arith) (key_eight all number (length front + length k) end some (omega arith) (omega arith)) in
    record { field = field; read = read; is = record { number = refl; value = refl }; next = omega arith }
behind front rest number key (Value.Bytes size content) some is says good =
    let k = varint_text key in
    let s = varint_text size in
    let all = front ++ (k ++ (s ++ (content ++ rest))) in
    let first : varint_at all (length front) ≡ Ok (worth key, length front + length k) = varint_here front (s ++ (content ++ rest)) key is in
    let second : varint_at all (length front + length k) ≡ Ok (worth size, length front + length k + length s) = varint_there front k (content ++ rest) size (length front + length k) good.0 refl in
    let text : length (k ++ (s ++ content)) ≡ length k + (length s + length content) = rw (length-append k (s ++ content), length-append s content) refl in
    let whole : length all ≡ length front + (length k + (length s + (length content + length rest))) = rw (length-append front (k ++ (s ++ (content ++ rest))), length-append k (s ++ (content ++ rest)), length-append s (content ++ rest), length-append content rest) refl in
    let fits : worth size ≡ length content = good.1 in
    let start = length front + length k + length s in
    let end = start + length content in
    let field : Field = record { number = number; wire = 2; value = worth size; start = start; end = end; next = end } in
    let read = field_by all (length front) (worth key) (length front + length k) number 2 (Ok field) first (omega arith) (omega arith) (key_bytes all number (length front + length k) start (worth size) end some second (omega arith) (omega arith)) in
    let here : IsRead all (length front) (record { number = number; key = key; value = Value.Bytes size content }) =
    record { field = field; read = read; is = record { number = refl; value = (refl, omega arith, content_stands front k s content rest start end refl refl) }; next = omega arith } in
    subst (λ (l : List ℕ). IsRead (front ++ (k ++ l)) (length front) (record { number = number; key = key; value = Value.Bytes size content })) (sym (append_assoc s content rest)) here
behind front rest number key (Value.Four bytes) some is says good =
    let k = varint_text key in
    let all = front ++ (k ++ (bytes ++ rest)) in
    let first : varint_at all (length front) ≡ Ok (worth key, length front + length k) = varint_here front (bytes ++ rest) key is in
    let size : length (k ++ bytes) ≡ length k + length bytes = length-append k bytes in
    let whole : length all ≡ length front + (length k + (length bytes + length rest)) = rw (length-append front (k ++ (bytes ++ rest)), length-append k (bytes ++ rest), length-append bytes rest) refl in
    let end = length front + length k + length bytes in
    let field : Field = record { number = number; wire = 5; value = little_endian (take 4 (drop (length front + length k) all)); start = length front + length k; end = end; next = end } in
    let read = field_by all (length front) (worth key) (length front + length k) number 5 (Ok field) first (omega arith) (omega arith) (key_four all number (length front + length k) end some (omega arith) (omega arith)) in
    record { field = field; read = read; is = record { number = refl; value = refl }; next = omega arith }

pub field_there : FieldsAreRead
field_there front rest entry good =
    subst (λ (l : List ℕ). IsRead (front ++ l) (length front) entry) (sym (append_assoc (varint_text entry.key) (value_text entry.value) rest)) (behind front rest entry.number entry.key entry.value good.some good.key good.says good.value)
