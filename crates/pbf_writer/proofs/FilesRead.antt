-- Files that are written are read again.
use Rattle.std.proofs.lemmas.Bool.{le-ltb, lt-ltb, lt-leb}
use Rattle.std.proofs.Common.{◌≡◌, ◌∙◌, ℕ, ◌+◌, ◌<◌, ◌≤◌, zero, suc, List, [], ◌∷◌, ◌++◌, length, take, drop, codes, Ok, Bool, false, not, ◌&&◌, refl, sym, ap, arith, append_assoc, append-nil, length-append}
use Rattle.std.specs.Str.{bytes_eq}
use Rattle.std.specs.Int.{bytes_high_first}
use Rattle.byteorder.specs.Endian.{big_number}
use Rattle.byteorder.specs.Numbers.{big_number-reads_back, length-bytes_high_first}
use Rattle.gh_base.specs.declared.map.OsmMap.{OsmMap}
use Rattle.pbf_wire.specs.declared.fields.Piece.{Piece}
use Rattle.pbf_wire.specs.declared.messages.BlobHeader.{BlobHeader}
use Rattle.pbf_wire.specs.Put.{bytes_field}
use Rattle.pbf_wire.specs.Pieces.{part_of}
use Rattle.pbf_wire.specs.Blocks.{block_with}
use Rattle.pbf_wire.specs.Headers.{header_block}
use Rattle.pbf_wire.specs.Blobs.{header_length, header_at, content_at, blob_with}
use Rattle.pbf_wire.specs.Files.{blobs_from}
use Rattle.pbf_wire.specs.Parts.{Part, part_text}
use Rattle.pbf_wire.specs.Writing.{header_text, blob_text, entry_text, features_text}
use Rattle.pbf_writer.proofs.Counts.{field_most, header_most}
use Rattle.pbf_writer.proofs.FieldsRead.{lead, message_read, behind, room_of, text_there, content_there, bytes_some}

-- the parts of an entry
abbrev pub header_of : List ℕ → List ℕ → List ℕ
header_of name content = header_text name (length (blob_text content))

abbrev pub size_of : List ℕ → List ℕ → List ℕ
size_of name content = bytes_high_first 4 (length (header_of name content))

-- where they end
abbrev pub header_end : ℕ → List ℕ → List ℕ → ℕ
header_end at name content = at + 4 + length (header_of name content)

abbrev pub entry_end : ℕ → List ℕ → List ℕ → ℕ
entry_end at name content = header_end at name content + length (blob_text content)

abbrev pub header_message : ℕ → List ℕ → List ℕ → BlobHeader
header_message at name content = record { name = record { start = at + 4 + length (lead 1 name); end = at + 4 + length (bytes_field 1 name) }; datasize = length (blob_text content); end = header_end at name content }

-- an entry that fits, at a place, with what stands behind it
pub record StandsAt (file rest name content : List ℕ) (at : ℕ) : Type 0 where
  pub whole : drop at file ≡ entry_text name content ++ rest
  pub short : length name ≤ 100
  pub small : length content ≤ 33554432

size_there : (file rest name content : List ℕ) (at : ℕ) → StandsAt file rest name content at → drop at file ≡ size_of name content ++ (header_of name content ++ (blob_text content ++ rest))
unfolding entry_text
size_there file rest name content at stands = stands.whole ∙ append_assoc (size_of name content) (header_of name content ++ blob_text content) rest ∙ ap (λ l. size_of name content ++ l) (append_assoc (header_of name content) (blob_text content) rest)

header_there : (file rest name content : List ℕ) (at : ℕ) → StandsAt file rest name content at → drop (at + 4) file ≡ header_of name content ++ (blob_text content ++ rest)
header_there file rest name content at stands =
    let four : length (size_of name content) ≡ 4 = length-bytes_high_first 4 (length (header_of name content)) in
    sym (ap (λ n. drop (at + n) file) four) ∙ behind file (size_of name content) (header_of name content ++ (blob_text content ++ rest)) at (size_there file rest name content at stands)

blob_there : (file rest name content : List ℕ) (at : ℕ) → StandsAt file rest name content at → drop (header_end at name content) file ≡ blob_text content ++ rest
blob_there file rest name content at stands = behind file (header_of name content) (blob_text content ++ rest) (at + 4) (header_there file rest name content at stands)

pub rest_there : (file rest name content : List ℕ) (at : ℕ) → StandsAt file rest name content at → drop (entry_end at name content) file ≡ rest
rest_there file rest name content at stands = behind file (blob_text content) rest (header_end at name content) (blob_there file rest name content at stands)

-- a blob is not empty, and ends where the file does or before
inside : (file rest name content : List ℕ) (at : ℕ) → StandsAt file rest name content at → (header_end at name content + length content < entry_end at name content) × (entry_end at name content ≤ length file)
inside file rest name content at stands =
    let room = room_of file (blob_text content) rest (header_end at name content) (blob_there file rest name content at stands) in
    let some = bytes_some 1 content in
    let size = length-append (bytes_field 1 content) [] in
    (omega arith, omega arith)

length_read : (file rest name content : List ℕ) (at : ℕ) → StandsAt file rest name content at → header_length file at ≡ Ok (length (header_of name content))
unfolding header_length
length_read file rest name content at stands =
    let most = header_most name (length (blob_text content)) in
    let short = stands.short in
    let within = inside file rest name content at stands in
    let number : big_number 4 (size_of name content ++ (header_of name content ++ (blob_text content ++ rest))) ≡ length (header_of name content) = big_number-reads_back 4 (length (header_of name content)) (header_of name content ++ (blob_text content ++ rest)) (omega arith) in
    rw (le-ltb (length file) (at + 4) (omega (arith, within.0, within.1)), size_there file rest name content at stands, number, lt-leb 65536 (length (header_of name content)) (omega arith)) refl

-- its name
name_read : (file rest name content : List ℕ) (at : ℕ) → StandsAt file rest name content at → part_of file (at + 4 + length (lead 1 name)) (at + 4 + length (bytes_field 1 name)) ≡ name
name_read file rest name content at stands =
    let number = part_text (Part.Number 3 (length (blob_text content))) ++ [] in
    content_there file name (number ++ (blob_text content ++ rest)) 1 (at + 4) (header_there file rest name content at stands ∙ append_assoc (bytes_field 1 name) number (blob_text content ++ rest))

header_read : (file rest name content : List ℕ) (at : ℕ) (first : Bool) → StandsAt file rest name content at → (first && not (bytes_eq name (codes "OSMHeader"))) ≡ false → header_at file first at ≡ Ok (header_message at name content)
unfolding header_at
header_read file rest name content at first stands named =
    let header = header_of name content in
    let blob = blob_text content in
    let short = stands.short in
    let small = stands.small in
    let within = inside file rest name content at stands in
    let taken = text_there file header (blob ++ rest) (at + 4) (header_there file rest name content at stands) in
    let most = field_most 1 content in
    let size : length blob ≡ length (bytes_field 1 content) = ap length (append-nil (bytes_field 1 content)) in
    let fields = message_read (Part.Bytes 1 name ∷ Part.Number 3 (length blob) ∷ []) (take (at + 4 + length header) file) (at + 4) ((omega arith, omega arith, omega arith), ((omega arith, omega arith, omega arith), tt)) taken in
    rw (length_read file rest name content at stands, le-ltb (length file) (at + 4 + length header) (omega (arith, within.0, within.1)), fields, le-ltb 33555456 (length blob) (omega arith), name_read file rest name content at stands, named, le-ltb (length file) (at + 4 + length header + length blob) within.1) refl

-- the content of an entry
content_read : (file rest name content : List ℕ) (at : ℕ) → StandsAt file rest name content at → content_at file (header_end at name content) (entry_end at name content) ≡ Ok (record { start = header_end at name content + length (lead 1 content); end = header_end at name content + length (bytes_field 1 content) })
unfolding content_at
content_read file rest name content at stands =
    let small = stands.small in
    let taken = text_there file (blob_text content) rest (header_end at name content) (blob_there file rest name content at stands) in
    rw (message_read (Part.Bytes 1 content ∷ []) (take (entry_end at name content) file) (header_end at name content) ((omega arith, omega arith, omega arith), tt) taken) refl

content_stands : (file rest name content : List ℕ) (at : ℕ) → StandsAt file rest name content at → drop (header_end at name content + length (lead 1 content)) (take (header_end at name content + length (bytes_field 1 content)) file) ≡ content
content_stands file rest name content at stands = content_there file content rest 1 (header_end at name content) (blob_there file rest name content at stands ∙ ap (λ l. l ++ rest) (append-nil (bytes_field 1 content)))

-- a block's entry adds what the block adds
pub data_read : (file rest content : List ℕ) (at : ℕ) (m n : OsmMap) → StandsAt file rest (codes "OSMData") content at → ((piece : Piece) → drop piece.start (take piece.end file) ≡ content → block_with file m piece ≡ Ok n) → blob_with file m (header_message at (codes "OSMData") content) ≡ Ok n
unfolding blob_with
data_read file rest content at m n stands adds = rw (name_read file rest (codes "OSMData") content at stands, content_read file rest (codes "OSMData") content at stands) (adds _ (content_stands file rest (codes "OSMData") content at stands))

-- the features that a file needs are known
header_block_read : (file : List ℕ) (piece : Piece) → drop piece.start (take piece.end file) ≡ features_text → header_block file piece ≡ Ok tt
unfolding header_block
header_block_read file piece e =
    let bytes = take piece.end file in
    let first = bytes_field 4 (codes "OsmSchema-V0.6") in
    let second = bytes_field 4 (codes "DenseNodes") in
    let run = message_read (Part.Bytes 4 (codes "OsmSchema-V0.6") ∷ Part.Bytes 4 (codes "DenseNodes") ∷ []) (take piece.end file) piece.start ((omega arith, omega arith, omega arith), ((omega arith, omega arith, omega arith), tt)) e in
    let one = content_there (take piece.end file) (codes "OsmSchema-V0.6") (second ++ []) 4 piece.start e in
    let two = content_there (take piece.end file) (codes "DenseNodes") [] 4 (piece.start + length first) (behind bytes first (second ++ []) piece.start e) in
    rw (run, one, two) refl

-- the header's entry adds nothing
pub features_read : (file rest : List ℕ) (at : ℕ) (m : OsmMap) → StandsAt file rest (codes "OSMHeader") features_text at → blob_with file m (header_message at (codes "OSMHeader") features_text) ≡ Ok m
unfolding blob_with
features_read file rest at m stands = rw (name_read file rest (codes "OSMHeader") features_text at stands, content_read file rest (codes "OSMHeader") features_text at stands, header_block_read file _ (content_stands file rest (codes "OSMHeader") features_text at stands)) refl

-- a file goes on from a place as this map, however many blobs may be read
abbrev pub GoesOn : List ℕ → Bool → OsmMap → ℕ → OsmMap → Type 0
GoesOn file first m at r = (most : ℕ) → length file ≤ at + most → blobs_from most file first m at ≡ Ok r

-- an entry, and what stands behind it
pub entry_step : (file rest name content : List ℕ) (at : ℕ) (first : Bool) (m n r : OsmMap) → StandsAt file rest name content at → (first && not (bytes_eq name (codes "OSMHeader"))) ≡ false → blob_with file m (header_message at name content) ≡ Ok n → GoesOn file false n (entry_end at name content) r → GoesOn file first m at r
entry_step file rest name content at first m n r stands named adds next zero room = absurd (let within = inside file rest name content at stands in omega (arith, within.0, within.1))
entry_step file rest name content at first m n r stands named adds next (suc most) room =
    let within = inside file rest name content at stands in
    rw (lt-ltb at (length file) (omega (arith, within.0, within.1)), header_read file rest name content at first stands named, adds) (next most (omega (arith, within.0)))

-- where nothing is left the file ends
pub end_read : (file : List ℕ) (m : OsmMap) (at : ℕ) → length file ≤ at → GoesOn file false m at m
end_read file m at end zero room = refl
end_read file m at end (suc most) room = rw (le-ltb at (length file) end) refl
