-- Blobs are read, behind their lengths and BlobHeaders.
use Rattle.std.proofs.Common.{◌≡◌, ◌≢◌, ◌∙◌, ℕ, ◌+◌, ◌<◌, ◌≤◌, List, [], ◌∷◌, ◌++◌, length, take, drop, codes, Option, Some, None, Ok, Bool, true, false, not, ◌&&◌, ltb, leb, inl, inr, refl, sym, ap, subst, arith, append_assoc, append-nil, length-append}
use Rattle.std.specs.Prelude.{◌==◌, if◌then◌else◌}
use Rattle.std.specs.List.{AllByRecursion}
use Rattle.std.specs.Str.{bytes_eq}
use Rattle.std.specs.Int.{bytes_high_first}
use Rattle.std.proofs.lemmas.Bool.Decides.{nat_tests}
use Rattle.std.proofs.lemmas.Bool.{false_from_ne_true, and_right}
use Rattle.std.proofs.lemmas.List.{take_at, take-take, length-take}
use Rattle.std.proofs.lemmas.Slice.Eq.{bytes_eq-Decides}
use Rattle.std.proofs.Math.Seq.{drop-append_seam}
use Rattle.byteorder.specs.Endian.{big_number}
use Rattle.byteorder.specs.Numbers.{big_number-reads_back, length-bytes_high_first}
use Rattle.gh_base.specs.declared.map.OsmMap.{OsmMap}
use Rattle.pbf_wire.specs.declared.fields.Spot.{Spot}
use Rattle.pbf_wire.specs.declared.fields.Piece.{Piece}
use Rattle.pbf_wire.specs.declared.messages.BlobHeader.{BlobHeader}
use Rattle.pbf_wire.specs.Pieces.{is_bytes, pieces_of, last_piece, part_of}
use Rattle.pbf_wire.specs.Headers.{is_known, features_in, header_block}
use Rattle.pbf_wire.specs.Blobs.{header_length, header_at, is_content, last_content, content_at, blob_with}
use Rattle.pbf_file_laws.specs.Messages.{Value, Entry}
use Rattle.pbf_file_laws.specs.Saying.{or_else, content_in, contents}
use Rattle.pbf_file_laws.specs.Reading.{Stands, IsValueAt, AreFields}
use Rattle.pbf_file_laws.specs.Blocks.{plus, no_map}
use Rattle.pbf_file_laws.specs.Files.{Held, held_in, last_held, is_data, is_type, IsRaw, IsKnown, IsHeader, Kind, IsNamed, BlobSays, IsBlob}
use Rattle.pbf_file_laws.proofs.Runs.{message_read}
use Rattle.pbf_file_laws.proofs.Says.{no_bytes, and_true, part_stands, scalar_read, or_else_assoc, none_behind}
use Rattle.pbf_file_laws.proofs.BlocksRead.{block_read}

-- what stands in a front of a file stands in the file
take_in : (end e : ℕ) (file : List ℕ) → e ≤ length (take end file) → take e (take end file) ≡ take e file
take_in end e file inside =
    let most = length-take end file in
    take-take e end file (omega arith)

part_in : (file content : List ℕ) (end start e : ℕ) → e ≤ length (take end file) → Stands (take e (take end file)) start content → part_of file start e ≡ content
part_in file content end start e inside stands = ap (drop start) (sym (take_in end e file inside)) ∙ part_stands (take e (take end file)) content start stands

-- a field that holds these bytes
abbrev IsHeld : List ℕ → Option Spot → Option Held → Type 0
IsHeld bytes None None = Unit {0}
IsHeld bytes None (Some held) = ⊥
IsHeld bytes (Some spot) None = ⊥
IsHeld bytes (Some spot) (Some held) = (spot.field.number ≡ held.number) × (spot.field.end ≤ length bytes) × Stands (take spot.field.end bytes) spot.field.start held.bytes

-- the last field of bytes whose number passes a test
abbrev last_spot : (ℕ → Bool) → Option Spot → List Spot → Option Spot
last_spot test found [] = found
last_spot test found (spot ∷ spots) = last_spot test (if spot.field.wire == 2 && test spot.field.number then Some spot else found) spots

abbrev no_held : Option Held
no_held = None

held_by : (t : Bool) (bytes content : List ℕ) (n : ℕ) (spot : Spot) (found : Option Spot) (held : Option Held) → spot.field.number ≡ n → spot.field.end ≤ length bytes → Stands (take spot.field.end bytes) spot.field.start content → IsHeld bytes found held →
    IsHeld bytes (if t then Some spot else found) (or_else (if t then Some (record { number = n; bytes = content }) else None) held)
held_by true bytes content n spot found held e inside stands is = (e, inside, stands)
held_by false bytes content n spot found held e inside stands is = is

left_by : (t : Bool) (bytes : List ℕ) (found : Option Spot) (held : Option Held) → IsHeld bytes found held → IsHeld bytes found (or_else (if t then no_held else None) held)
left_by true bytes found held is = is
left_by false bytes found held is = is

held_step : (test : ℕ → Bool) (bytes : List ℕ) (n : ℕ) (value : Value) (spot : Spot) (found : Option Spot) (held : Option Held) → spot.field.number ≡ n → IsValueAt bytes spot.field value → IsHeld bytes found held →
    IsHeld bytes (if spot.field.wire == 2 && test spot.field.number then Some spot else found) (or_else (if test n then held_in n value else None) held)
held_step test bytes n (Value.Varint groups) spot found held e is h = rw is.0 (left_by (test n) bytes found held h)
held_step test bytes n (Value.Eight eight) spot found held e is h = rw is (left_by (test n) bytes found held h)
held_step test bytes n (Value.Bytes size content) spot found held e is h =
    let when : (spot.field.wire == 2 && test spot.field.number) ≡ test n = rw is.0 (ap test e) in
    subst (λ (b : Bool). IsHeld bytes (if b then Some spot else found) (or_else (if test n then held_in n (Value.Bytes size content) else None) held)) (sym when) (held_by (test n) bytes content n spot found held e is.1 is.2 h)
held_step test bytes n (Value.Four four) spot found held e is h = rw is (left_by (test n) bytes found held h)

held_from : (test : ℕ → Bool) (bytes : List ℕ) (spots : List Spot) (entries : List Entry) (found : Option Spot) (held : Option Held) → AreFields bytes spots entries → IsHeld bytes found held → IsHeld bytes (last_spot test found spots) (or_else (last_held test entries) held)
held_from test bytes [] [] found held are h = h
held_from test bytes [] (entry ∷ entries) found held are h = absurd are
held_from test bytes (spot ∷ spots) [] found held are h = absurd are
held_from test bytes (spot ∷ spots) (entry ∷ entries) found held are h =
    let own : Option Held = if test entry.number then held_in entry.number entry.value else None in
    let here = held_step test bytes entry.number entry.value spot found held are.0.number are.0.value h in
    let more = held_from test bytes spots entries (if spot.field.wire == 2 && test spot.field.number then Some spot else found) (or_else own held) are.1 here in
    subst (λ (o : Option Held). IsHeld bytes (last_spot test (if spot.field.wire == 2 && test spot.field.number then Some spot else found) spots) o) (sym (or_else_assoc (last_held test entries) own held)) more

-- a field that holds these bytes is found
record Finds (bytes : List ℕ) (found : Option Spot) (held : Held) : Type 0 where
  spot : Spot
  is : found ≡ Some spot
  number : spot.field.number ≡ held.number
  inside : spot.field.end ≤ length bytes
  stands : Stands (take spot.field.end bytes) spot.field.start held.bytes

found_at : (bytes : List ℕ) (found : Option Spot) (held : Held) → IsHeld bytes found (Some held) → Finds bytes found held
found_at bytes None held h = absurd h
found_at bytes (Some spot) held h = record { spot = spot; is = refl; number = h.0; inside = h.1; stands = h.2 }

held_read : (test : ℕ → Bool) (bytes : List ℕ) (spots : List Spot) (entries : List Entry) (held : Held) → AreFields bytes spots entries → last_held test entries ≡ Some held → Finds bytes (last_spot test None spots) held
held_read test bytes spots entries held are last =
    let all = held_from test bytes spots entries None None are tt in
    let same : or_else (last_held test entries) None ≡ Some held = none_behind (last_held test entries) ∙ last in
    found_at bytes (last_spot test None spots) held (subst (λ (o : Option Held). IsHeld bytes (last_spot test None spots) o) same all)

-- both ways to find a field are that
content_same : (found : Option Spot) (spots : List Spot) → last_content found spots ≡ last_spot is_data found spots
content_same found [] = refl
content_same found (spot ∷ spots) = content_same (if is_content spot then Some spot else found) spots

abbrev piece_at : Spot → Piece
piece_at spot = record { start = spot.field.start; end = spot.field.end }

abbrev piece_of : Option Spot → Option Piece
piece_of None = None
piece_of (Some spot) = Some (piece_at spot)

piece_by : (one two : Bool) (spot : Spot) (found : Option Spot) (pieces : List Piece) → last_piece (piece_of found) (if one && two then piece_at spot ∷ pieces else pieces) ≡ last_piece (piece_of (if two && one then Some spot else found)) pieces
piece_by true true spot found pieces = refl
piece_by true false spot found pieces = refl
piece_by false true spot found pieces = refl
piece_by false false spot found pieces = refl

piece_same : (found : Option Spot) (spots : List Spot) → last_piece (piece_of found) (pieces_of 1 spots) ≡ piece_of (last_spot is_type found spots)
piece_same found [] = refl
piece_same found (spot ∷ spots) =
    piece_by (spot.field.number == 1) (spot.field.wire == 2) spot found (pieces_of 1 spots) ∙ piece_same (if spot.field.wire == 2 && is_type spot.field.number then Some spot else found) spots

-- where the content of a Blob stands
record ContentAt (file : List ℕ) (start end : ℕ) (content : List ℕ) : Type 0 where
  piece : Piece
  read : content_at file start end ≡ Ok piece
  stands : Stands (take piece.end file) piece.start content

content_read : (file blob content : List ℕ) (start end : ℕ) → Stands (take end file) start blob → IsRaw blob content → ContentAt file start end content
unfolding content_at
content_read file blob content start end stands h =
    let bytes = take end file in
    let run = message_read bytes blob start h.entries stands h.written in
    let found = held_read is_data bytes run.spots h.entries (record { number = 1; bytes = content }) run.are h.last in
    let is : last_content None run.spots ≡ Some found.spot = content_same None run.spots ∙ found.is in
    record {
      piece = piece_at found.spot;
      read = rw (run.read, is, found.number) refl;
      stands = subst (λ (b : List ℕ). Stands b found.spot.field.start content) (take_in end found.spot.field.end file found.inside) found.stands;
    }

known_by : (name : List ℕ) → IsKnown name → is_known name ≡ true
known_by name (inl e) = rw e refl
known_by name (inr e) = rw e refl

-- features that are known
features_by : (t : Bool) (bytes content : List ℕ) (spot : Spot) (spots : List Spot) (rest : List (List ℕ)) → is_bytes 4 spot ≡ t → part_of bytes spot.field.start spot.field.end ≡ content → AllByRecursion IsKnown ((if t then content ∷ [] else []) ++ rest) →
    (AllByRecursion IsKnown rest → features_in bytes spots ≡ Ok tt) → features_in bytes (spot ∷ spots) ≡ Ok tt
features_by true bytes content spot spots rest is part good more = rw (is, part, known_by content good.0) (more good.1)
features_by false bytes content spot spots rest is part good more = rw is (more good)

no_feature_by : (t : Bool) (bytes : List ℕ) (spot : Spot) (spots : List Spot) (rest : List (List ℕ)) → is_bytes 4 spot ≡ false → AllByRecursion IsKnown ((if t then no_bytes else []) ++ rest) →
    (AllByRecursion IsKnown rest → features_in bytes spots ≡ Ok tt) → features_in bytes (spot ∷ spots) ≡ Ok tt
no_feature_by true bytes spot spots rest is good more = rw is (more good)
no_feature_by false bytes spot spots rest is good more = rw is (more good)

features_step : (bytes : List ℕ) (n : ℕ) (value : Value) (spot : Spot) (spots : List Spot) (rest : List (List ℕ)) → spot.field.number ≡ n → IsValueAt bytes spot.field value → AllByRecursion IsKnown ((if n == 4 then content_in value else []) ++ rest) →
    (AllByRecursion IsKnown rest → features_in bytes spots ≡ Ok tt) → features_in bytes (spot ∷ spots) ≡ Ok tt
features_step bytes n (Value.Varint groups) spot spots rest e is good more = no_feature_by (n == 4) bytes spot spots rest (and_right (spot.field.number == 4) (spot.field.wire == 2) (rw is.0 refl)) good more
features_step bytes n (Value.Eight eight) spot spots rest e is good more = no_feature_by (n == 4) bytes spot spots rest (and_right (spot.field.number == 4) (spot.field.wire == 2) (rw is refl)) good more
features_step bytes n (Value.Bytes size content) spot spots rest e is good more =
    let when : is_bytes 4 spot ≡ (n == 4) = rw (e, is.0) (and_true (n == 4)) in
    features_by (n == 4) bytes content spot spots rest when (part_stands (take spot.field.end bytes) content spot.field.start is.2) good more
features_step bytes n (Value.Four four) spot spots rest e is good more = no_feature_by (n == 4) bytes spot spots rest (and_right (spot.field.number == 4) (spot.field.wire == 2) (rw is refl)) good more

features_read : (bytes : List ℕ) (spots : List Spot) (entries : List Entry) → AreFields bytes spots entries → AllByRecursion IsKnown (contents 4 entries) → features_in bytes spots ≡ Ok tt
features_read bytes [] [] are good = refl
features_read bytes [] (entry ∷ entries) are good = absurd are
features_read bytes (spot ∷ spots) [] are good = absurd are
features_read bytes (spot ∷ spots) (entry ∷ entries) are good =
    features_step bytes entry.number entry.value spot spots (contents 4 entries) are.0.number are.0.value good (λ rest. features_read bytes spots entries are.1 rest)

header_block_read : (file content : List ℕ) (piece : Piece) → Stands (take piece.end file) piece.start content → IsHeader content → header_block file piece ≡ Ok tt
unfolding header_block
header_block_read file content piece stands h =
    let run = message_read (take piece.end file) content piece.start h.entries stands h.written in
    rw (run.read, features_read (take piece.end file) run.spots h.entries run.are h.known) refl

-- bytes that stand in a file at a place
pub record StandsIn (file front bytes rest : List ℕ) (at : ℕ) : Type 0 where
  pub whole : file ≡ front ++ (bytes ++ rest)
  pub place : at ≡ length front

-- the parts of a blob from a place on
abbrev pub size_of : List ℕ → List ℕ
size_of header = bytes_high_first 4 (length header)

pub size_length : (header : List ℕ) → length (size_of header) ≡ 4
size_length header = length-bytes_high_first 4 (length header)

split_at : (front header blob rest bytes : List ℕ) → bytes ≡ size_of header ++ (header ++ blob) → front ++ (bytes ++ rest) ≡ (front ++ size_of header) ++ (header ++ (blob ++ rest))
split_at front header blob rest bytes e = rw e (simp append_assoc)

length_read : (file front header rest : List ℕ) (at : ℕ) → length header < 65536 → file ≡ front ++ (size_of header ++ rest) → at ≡ length front → header_length file at ≡ Ok (length header)
unfolding header_length
length_read file front header rest at short e p =
    let four = size_length header in
    let whole : length file ≡ length front + length (size_of header ++ rest) = rw e (length-append front (size_of header ++ rest)) in
    let both : length (size_of header ++ rest) ≡ length (size_of header) + length rest = length-append (size_of header) rest in
    let inside : ltb (length file) (at + 4) ≡ false = grind (arith, nat_tests) in
    let behind : drop at file ≡ size_of header ++ rest = rw (e, p) (drop-append_seam front (size_of header ++ rest)) in
    let number : big_number 4 (size_of header ++ rest) ≡ length header = big_number-reads_back 4 (length header) rest (omega arith) in
    let low : leb 65536 (length header) ≡ false = grind (arith, nat_tests) in
    rw (inside, behind, number, low) refl

-- a BlobHeader that is read: its type, its datasize, and where the Blob stands
pub record HeaderAt (file : List ℕ) (first : Bool) (at : ℕ) (name header blob : List ℕ) : Type 0 where
  pub piece : Piece
  pub named : part_of file piece.start piece.end ≡ name
  pub read : header_at file first at ≡ Ok (record { name = piece; datasize = length blob; end = at + 4 + length header })
  pub stands : Stands (take (at + 4 + length header + length blob) file) (at + 4 + length header) blob

pub header_read : (kind : Kind) (file front rest bytes : List ℕ) (at : ℕ) (first : Bool) (part : OsmMap) (h : IsBlob kind bytes part) → StandsIn file front bytes rest at → (first && not (bytes_eq h.name (codes "OSMHeader"))) ≡ false → HeaderAt file first at h.name h.header h.blob
unfolding header_at
header_read kind file front rest bytes at first part h stands_in named =
    let header = h.header in
    let blob = h.blob in
    let size = size_of header in
    let place = stands_in.place in
    let four = size_length header in
    let short = h.short in
    let few = h.few in
    let all = front ++ size in
    let front_size : length all ≡ length front + 4 = length-append front size ∙ ap (λ (n : ℕ). length front + n) four in
    let start : at + 4 ≡ length all = omega arith in
    let split : file ≡ all ++ (header ++ (blob ++ rest)) = stands_in.whole ∙ split_at front header blob rest bytes h.text in
    let plain : file ≡ front ++ (size ++ (header ++ (blob ++ rest))) = split ∙ append_assoc front size (header ++ (blob ++ rest)) in
    let length_is = length_read file front header (header ++ (blob ++ rest)) at short plain place in
    let whole : length file ≡ length all + length (header ++ (blob ++ rest)) = rw split (length-append all (header ++ (blob ++ rest))) in
    let two : length (header ++ (blob ++ rest)) ≡ length header + length (blob ++ rest) = length-append header (blob ++ rest) in
    let three : length (blob ++ rest) ≡ length blob + length rest = length-append blob rest in
    let inside : ltb (length file) (at + 4 + length header) ≡ false = grind (arith, nat_tests) in
    let header_front : length (all ++ header) ≡ at + 4 + length header = length-append all header ∙ ap (λ (n : ℕ). n + length header) (sym start) in
    let taken : take (at + 4 + length header) file ≡ all ++ header = ap (take (at + 4 + length header)) (split ∙ sym (append_assoc all header (blob ++ rest))) ∙ take_at (all ++ header) (blob ++ rest) (at + 4 + length header) header_front in
    let front_bytes = take (at + 4 + length header) file in
    let run = message_read front_bytes header (at + 4) h.entries (record { before = all; whole = taken; place = start }) h.written in
    let found = held_read is_type front_bytes run.spots h.entries (record { number = 1; bytes = h.name }) run.are h.type in
    let name_is : last_piece None (pieces_of 1 run.spots) ≡ Some (piece_at found.spot) = piece_same None run.spots ∙ ap piece_of found.is in
    let name_stands : part_of file found.spot.field.start found.spot.field.end ≡ h.name = part_in file h.name (at + 4 + length header) found.spot.field.start found.spot.field.end found.inside found.stands in
    let datasize = scalar_read front_bytes 3 run.spots h.entries run.are ∙ h.datasize in
    let long : ltb 33555456 (length blob) ≡ false = grind (arith, nat_tests) in
    let ends : ltb (length file) (at + 4 + length header + length blob) ≡ false = grind (arith, nat_tests) in
    let blob_front : length ((all ++ header) ++ blob) ≡ at + 4 + length header + length blob = length-append (all ++ header) blob ∙ ap (λ (n : ℕ). n + length blob) header_front in
    let blob_split : file ≡ ((all ++ header) ++ blob) ++ rest = split ∙ simp append_assoc in
    let blob_taken : take (at + 4 + length header + length blob) file ≡ (all ++ header) ++ blob = ap (take (at + 4 + length header + length blob)) blob_split ∙ take_at ((all ++ header) ++ blob) rest (at + 4 + length header + length blob) blob_front in
    record {
      piece = piece_at found.spot;
      named = name_stands;
      read = rw (length_is, inside, run.read, name_is, datasize, long, name_stands, named, ends) refl;
      stands = record { before = all ++ header; whole = blob_taken; place = sym header_front };
    }

other_name : (name word : List ℕ) → name ≢ word → bytes_eq name word ≡ false
other_name name word h = false_from_ne_true (bytes_eq name word) (λ e. h ((bytes_eq-Decides name word).0 e))

nothing_more : (m : OsmMap) → m ≡ plus m no_map
nothing_more m = rw (append-nil m.nodes, append-nil m.ways) refl

-- a Blob adds what it says
pub blob_adds : (kind : Kind) (file blob name : List ℕ) (header : BlobHeader) (m part : OsmMap) → IsNamed kind name → part_of file header.name.start header.name.end ≡ name → Stands (take (header.end + header.datasize) file) header.end blob → BlobSays kind blob part → blob_with file m header ≡ Ok (plus m part)
unfolding blob_with
blob_adds Kind.Header file blob name header m part named there stands says =
    let content = content_read file blob says.0 header.end (header.end + header.datasize) stands says.1 in
    rw (there, named, content.read, header_block_read file says.0 content.piece content.stands says.2, says.3) (ap (λ (n : OsmMap). Ok n) (nothing_more m))
blob_adds Kind.Data file blob name header m part named there stands says =
    let content = content_read file blob says.0 header.end (header.end + header.datasize) stands says.1 in
    rw (there, named, content.read) (block_read file says.0 m content.piece part content.stands says.2)
blob_adds Kind.Other file blob name header m part named there stands says =
    rw (there, other_name name (codes "OSMHeader") named.0, other_name name (codes "OSMData") named.1, says) (ap (λ (n : OsmMap). Ok n) (nothing_more m))
