-- What the fields of a message say is read.
use Rattle.std.proofs.Common.{◌≡◌, ◌∙◌, ℕ, zero, suc, ◌+◌, ◌<◌, ◌≤◌, List, [], ◌∷◌, ◌++◌, length, take, drop, map, Option, Some, None, Ok, Bool, true, false, ltb, refl, sym, ap, arith, append_assoc, append-nil, length-append}
use Rattle.std.specs.Prelude.{◌&&◌, ◌==◌, if◌then◌else◌}
use Rattle.std.proofs.lemmas.Bool.Decides.{nat_tests}
use Rattle.std.proofs.Math.Seq.{drop-append_seam}
use Rattle.std.specs.List.{AllByRecursion}
use Rattle.pbf_wire.specs.declared.wire.Field.{Field}
use Rattle.pbf_wire.specs.declared.fields.Spot.{Spot}
use Rattle.pbf_wire.specs.declared.fields.Piece.{Piece}
use Rattle.pbf_wire.specs.declared.fields.Values.{Values}
use Rattle.pbf_wire.specs.Wire.{varint_at}
use Rattle.pbf_wire.specs.Pieces.{scalar_of, pieces_of, part_of, joined_of}
use Rattle.pbf_wire.specs.Lists.{no_values, both, varints_from, varints_of, values_in, values_of}
use Rattle.pbf_file_laws.specs.Messages.{IsVarint, varint_text, worth, Value, Entry}
use Rattle.pbf_file_laws.specs.Saying.{or_else, number_in, own_number, scalar, content_in, contents, joined, varints_text, IsPacked, ValueLists, ByTest, Lists}
use Rattle.pbf_file_laws.specs.Reading.{Stands, IsValueAt, AreFields, ScalarsAreRead, ListsAreRead}
use Rattle.pbf_file_laws.proofs.Runs.{message_read}
use Rattle.pbf_file_laws.proofs.Varints.{varint_some, varint_here}

-- what stands to the end is all that is left
pub part_stands : (bytes content : List ℕ) (at : ℕ) → Stands bytes at content → drop at bytes ≡ content
part_stands bytes content at h =
    let place = h.place in
    rw (h.whole, place) (drop-append_seam h.before content)

pub or_else_assoc : {X : Type 0} (a b d : Option X) → or_else (or_else a b) d ≡ or_else a (or_else b d)
or_else_assoc None b d = refl
or_else_assoc (Some x) b d = refl

number_by : (t : Bool) (v : ℕ) (found : Option ℕ) → (if t && true then Some v else found) ≡ or_else (if t then Some v else None) found
number_by true v found = refl
number_by false v found = refl

abbrev no_number : Option ℕ
no_number = None

other_by : (t : Bool) (v : ℕ) (found : Option ℕ) → (if t && false then Some v else found) ≡ or_else (if t then no_number else None) found
other_by true v found = refl
other_by false v found = refl

scalar_step : (bytes : List ℕ) (number n : ℕ) (field : Field) (value : Value) (found : Option ℕ) → field.number ≡ n → IsValueAt bytes field value →
    (if field.number == number && field.wire == 0 then Some field.value else found) ≡ or_else (if n == number then number_in value else None) found
scalar_step bytes number n field (Value.Varint groups) found e is = rw (e, is.0, is.1) (number_by (n == number) (worth groups) found)
scalar_step bytes number n field (Value.Eight eight) found e is = rw (e, is) (other_by (n == number) field.value found)
scalar_step bytes number n field (Value.Bytes size content) found e is = rw (e, is.0) (other_by (n == number) field.value found)
scalar_step bytes number n field (Value.Four four) found e is = rw (e, is) (other_by (n == number) field.value found)

scalar_from : (bytes : List ℕ) (number : ℕ) (spots : List Spot) (entries : List Entry) (found : Option ℕ) → AreFields bytes spots entries → scalar_of number found spots ≡ or_else (scalar number entries) found
scalar_from bytes number [] [] found are = refl
scalar_from bytes number [] (entry ∷ entries) found are = absurd are
scalar_from bytes number (spot ∷ spots) [] found are = absurd are
scalar_from bytes number (spot ∷ spots) (entry ∷ entries) found are =
    let step = scalar_step bytes number entry.number spot.field entry.value found are.0.number are.0.value in
    ap (λ (f : Option ℕ). scalar_of number f spots) step ∙ scalar_from bytes number spots entries (or_else (own_number number entry) found) are.1 ∙ sym (or_else_assoc (scalar number entries) (own_number number entry) found)

pub none_behind : {X : Type 0} (o : Option X) → or_else o None ≡ o
none_behind None = refl
none_behind (Some x) = refl

-- the last scalar
pub scalar_read : (bytes : List ℕ) (number : ℕ) (spots : List Spot) (entries : List Entry) → AreFields bytes spots entries → scalar_of number None spots ≡ scalar number entries
scalar_read bytes number spots entries are = scalar_from bytes number spots entries None are ∙ none_behind (scalar number entries)

abbrev pub no_bytes : List (List ℕ)
no_bytes = []

pub and_true : (t : Bool) → (t && true) ≡ t
and_true true = refl
and_true false = refl

abbrev no_pieces : List Piece
no_pieces = []

piece_by : (bytes : List ℕ) (t : Bool) (piece : Piece) (pieces : List Piece) (content : List ℕ) (rest : List (List ℕ)) → part_of bytes piece.start piece.end ≡ content → joined_of bytes pieces ≡ joined rest →
    joined_of bytes (if t && true then piece ∷ pieces else pieces) ≡ joined ((if t then content ∷ [] else []) ++ rest)
piece_by bytes true piece pieces content rest e more = rw (e, more) refl
piece_by bytes false piece pieces content rest e more = more

skip_by : (bytes : List ℕ) (t : Bool) (piece : Piece) (pieces : List Piece) (rest : List (List ℕ)) → joined_of bytes pieces ≡ joined rest →
    joined_of bytes (if t && false then piece ∷ pieces else pieces) ≡ joined ((if t then no_bytes else []) ++ rest)
skip_by bytes true piece pieces rest more = more
skip_by bytes false piece pieces rest more = more

joined_step : (bytes : List ℕ) (number n : ℕ) (field : Field) (value : Value) (pieces : List Piece) (rest : List (List ℕ)) → field.number ≡ n → IsValueAt bytes field value → joined_of bytes pieces ≡ joined rest →
    joined_of bytes (if field.number == number && field.wire == 2 then record { start = field.start; end = field.end } ∷ pieces else pieces) ≡ joined ((if n == number then content_in value else []) ++ rest)
joined_step bytes number n field (Value.Varint groups) pieces rest e is more = rw (e, is.0) (skip_by bytes (n == number) _ pieces rest more)
joined_step bytes number n field (Value.Eight eight) pieces rest e is more = rw (e, is) (skip_by bytes (n == number) _ pieces rest more)
joined_step bytes number n field (Value.Bytes size content) pieces rest e is more = rw (e, is.0) (piece_by bytes (n == number) (record { start = field.start; end = field.end }) pieces content rest (part_stands (take field.end bytes) content field.start is.2) more)
joined_step bytes number n field (Value.Four four) pieces rest e is more = rw (e, is) (skip_by bytes (n == number) _ pieces rest more)

-- the bytes of a number's fields, joined
pub joined_read : (bytes : List ℕ) (number : ℕ) (spots : List Spot) (entries : List Entry) → AreFields bytes spots entries → joined_of bytes (pieces_of number spots) ≡ joined (contents number entries)
joined_read bytes number [] [] are = refl
joined_read bytes number [] (entry ∷ entries) are = absurd are
joined_read bytes number (spot ∷ spots) [] are = absurd are
joined_read bytes number (spot ∷ spots) (entry ∷ entries) are =
    joined_step bytes number entry.number spot.field entry.value (pieces_of number spots) (contents number entries) are.0.number are.0.value (joined_read bytes number spots entries are.1)

varints_none : (key most at : ℕ) (bytes : List ℕ) → length bytes ≤ at → varints_from key most bytes at ≡ no_values
varints_none key zero at bytes end = refl
varints_none key (suc most) at bytes end =
    let test : ltb at (length bytes) ≡ false = grind (arith, nat_tests) in
    rw test refl

varints_more : (key most at next value : ℕ) (bytes values : List ℕ) → at < length bytes → varint_at bytes at ≡ Ok (value, next) → varints_from key most bytes next ≡ record { values = values; bad = None } →
    varints_from key (suc most) bytes at ≡ record { values = value ∷ values; bad = None }
varints_more key most at next value bytes values inside here behind =
    let test : ltb at (length bytes) ≡ true = grind (arith, nat_tests) in
    rw (test, here, behind) refl

varints_all : (varints : List (List ℕ)) (key most at : ℕ) (bytes front : List ℕ) → AllByRecursion IsVarint varints → bytes ≡ front ++ varints_text varints → at ≡ length front → length (varints_text varints) ≤ most → varints_from key most bytes at ≡ record { values = map worth varints; bad = None }
varints_all [] key most at bytes front good e p room = varints_none key most at bytes (rw (e, p, append-nil front) (omega arith))
varints_all (groups ∷ varints) key zero at bytes front good e p room =
    let some = varint_some groups good.0 in
    let size : length (varint_text groups ++ varints_text varints) ≡ length (varint_text groups) + length (varints_text varints) = length-append (varint_text groups) (varints_text varints) in
    absurd (omega arith)
varints_all (groups ∷ varints) key (suc most) at bytes front good e p room =
    let text = varint_text groups in
    let tail = varints_text varints in
    let some = varint_some groups good.0 in
    let size : length (text ++ tail) ≡ length text + length tail = length-append text tail in
    let whole : length bytes ≡ length front + length (text ++ tail) = rw e (length-append front (text ++ tail)) in
    let here : varint_at bytes at ≡ Ok (worth groups, at + length text) = rw (e, p) (varint_here front tail groups good.0) in
    let longer : at + length text ≡ length (front ++ text) = rw p (sym (length-append front text)) in
    let behind = varints_all varints key most (at + length text) bytes (front ++ text) good.1 (e ∙ sym (append_assoc front text tail)) longer (omega arith) in
    varints_more key most at (at + length text) (worth groups) bytes (map worth varints) (omega arith) here behind

-- a packed field
packed_read : (bytes content numbers : List ℕ) (key at : ℕ) → Stands bytes at content → IsPacked content numbers → varints_of key bytes at ≡ record { values = numbers; bad = None }
unfolding varints_of
packed_read bytes content numbers key at stands packed =
    let e : bytes ≡ stands.before ++ varints_text packed.varints = rw (sym packed.text) stands.whole in
    let size : length bytes ≡ length stands.before + length (varints_text packed.varints) = rw e (length-append stands.before (varints_text packed.varints)) in
    rw packed.say (varints_all packed.varints key (length bytes) at bytes stands.before packed.are e stands.place (omega arith))

both_read : (one other : Values) (xs ys : List ℕ) → one ≡ record { values = xs; bad = None } → other ≡ record { values = ys; bad = None } → both one other ≡ record { values = xs ++ ys; bad = None }
both_read one other xs ys e f = rw (e, f) refl

list_by : (t : Bool) (bytes numbers : List ℕ) (key : ℕ) (field : Field) (value : Value) → IsValueAt bytes field value → ByTest t (ValueLists value numbers) (numbers ≡ []) →
    (if t then (if field.wire == 0 then record { values = field.value ∷ []; bad = None } else if field.wire == 2 then varints_of key (take field.end bytes) field.start else no_values) else no_values) ≡ record { values = numbers; bad = None }
list_by false bytes numbers key field value is says = rw says refl
list_by true bytes numbers key field (Value.Varint groups) is says = rw (is.0, is.1, says) refl
list_by true bytes numbers key field (Value.Eight eight) is says = rw (is, says) refl
list_by true bytes numbers key field (Value.Bytes size content) is says = rw is.0 (packed_read (take field.end bytes) content numbers key field.start is.2 says)
list_by true bytes numbers key field (Value.Four four) is says = rw (is, says) refl

-- a list, packed or not, in as many pieces as there are
pub list_read : (bytes : List ℕ) (number : ℕ) (spots : List Spot) (entries : List Entry) (numbers : List ℕ) → AreFields bytes spots entries → Lists number entries numbers → values_of bytes number spots ≡ record { values = numbers; bad = None }
list_read bytes number [] [] numbers are says = rw says refl
list_read bytes number [] (entry ∷ entries) numbers are says = absurd are
list_read bytes number (spot ∷ spots) [] numbers are says = absurd are
list_read bytes number (spot ∷ spots) (entry ∷ entries) numbers are says =
    let front = says.0 in
    let back = says.1 in
    let here : values_in bytes number spot ≡ record { values = front; bad = None } = rw are.0.number (list_by (entry.number == number) bytes front spot.key spot.field entry.value are.0.value says.3) in
    let more = list_read bytes number spots entries back are.1 says.4 in
    rw says.2 (both_read (values_in bytes number spot) (values_of bytes number spots) front back here more)

pub scalars : ScalarsAreRead
scalars bytes content at entries number stands written =
    let run = message_read bytes content at entries stands written in
    rw run.read (scalar_read bytes number run.spots entries run.are)

pub lists : ListsAreRead
lists bytes content at entries number numbers stands written says =
    let run = message_read bytes content at entries stands written in
    rw run.read (list_read bytes number run.spots entries numbers run.are says)
