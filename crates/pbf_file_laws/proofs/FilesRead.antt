-- Files are read, blob by blob.
use Rattle.std.proofs.Common.{◌≡◌, ◌∙◌, ℕ, zero, suc, ◌+◌, ◌<◌, ◌≤◌, List, [], ◌∷◌, ◌++◌, length, codes, Ok, Bool, true, false, not, ◌&&◌, ltb, refl, sym, ap, arith, append_assoc, append-nil, length-append}
use Rattle.std.specs.Str.{bytes_eq}
use Rattle.std.proofs.lemmas.Bool.Decides.{nat_tests}
use Rattle.gh_base.specs.declared.map.OsmMap.{OsmMap}
use Rattle.pbf_wire.specs.declared.messages.BlobHeader.{BlobHeader}
use Rattle.pbf_wire.specs.Blobs.{header_at, blob_with}
use Rattle.pbf_wire.specs.Files.{blobs_from, reads}
use Rattle.pbf_file_laws.specs.Saying.{joined, Pairwise}
use Rattle.pbf_file_laws.specs.Blocks.{plus, no_map, together}
use Rattle.pbf_file_laws.specs.Files.{Kind, IsBlob, IsAnyBlob, FilesAreRead}
use Rattle.pbf_file_laws.proofs.BlobsRead.{StandsIn, header_read, blob_adds, size_of, size_length}

blob_length : (kind : Kind) (bytes : List ℕ) (part : OsmMap) → (h : IsBlob kind bytes part) → length bytes ≡ 4 + length h.header + length h.blob
blob_length kind bytes part h =
    let four = size_length h.header in
    let one : length (size_of h.header ++ (h.header ++ h.blob)) ≡ length (size_of h.header) + length (h.header ++ h.blob) = length-append (size_of h.header) (h.header ++ h.blob) in
    let two : length (h.header ++ h.blob) ≡ length h.header + length h.blob = length-append h.header h.blob in
    ap length h.text ∙ omega arith

-- one blob, and those behind it
next_blob : (most : ℕ) (file : List ℕ) (first : Bool) (at end : ℕ) (header : BlobHeader) (m n r : OsmMap) → at < length file → header_at file first at ≡ Ok header → blob_with file m header ≡ Ok n → header.end + header.datasize ≡ end → blobs_from most file false n end ≡ Ok r →
    blobs_from (suc most) file first m at ≡ Ok r
next_blob most file first at end header m n r inside read adds ends behind =
    let test : ltb at (length file) ≡ true = grind (arith, nat_tests) in
    rw (test, read, adds, ends) behind

blob_step : (most : ℕ) (kind : Kind) (file front rest bytes : List ℕ) (at : ℕ) (first : Bool) (m part r : OsmMap) (h : IsBlob kind bytes part) → StandsIn file front bytes rest at → (first && not (bytes_eq h.name (codes "OSMHeader"))) ≡ false → length (bytes ++ rest) ≤ most →
    ((left : ℕ) (longer : List ℕ) → file ≡ longer ++ rest → length rest ≤ left → blobs_from left file false (plus m part) (length longer) ≡ Ok r) → blobs_from most file first m at ≡ Ok r
blob_step zero kind file front rest bytes at first m part r h stands named room behind =
    let size : length (bytes ++ rest) ≡ length bytes + length rest = length-append bytes rest in
    let long = blob_length kind bytes part h in
    absurd (omega arith)
blob_step (suc most) kind file front rest bytes at first m part r h stands named room behind =
    let size : length (bytes ++ rest) ≡ length bytes + length rest = length-append bytes rest in
    let long = blob_length kind bytes part h in
    let place = stands.place in
    let whole : length file ≡ length front + length (bytes ++ rest) = rw stands.whole (length-append front (bytes ++ rest)) in
    let header = header_read kind file front rest bytes at first part h stands named in
    let message : BlobHeader = record { name = header.piece; datasize = length h.blob; end = at + 4 + length h.header } in
    let adds : blob_with file m message ≡ Ok (plus m part) = blob_adds kind file h.blob h.name message m part h.named header.named header.stands h.says in
    let longer : length (front ++ bytes) ≡ length front + length bytes = length-append front bytes in
    let next : blobs_from most file false (plus m part) (length (front ++ bytes)) ≡ Ok r = behind most (front ++ bytes) (stands.whole ∙ sym (append_assoc front bytes rest)) (omega arith) in
    next_blob most file first at (length (front ++ bytes)) message m (plus m part) r (omega arith) header.read adds (omega arith) next

blobs_none : (most : ℕ) (file : List ℕ) (m : OsmMap) (at : ℕ) → length file ≤ at → blobs_from most file false m at ≡ Ok m
blobs_none zero file m at end = refl
blobs_none (suc most) file m at end =
    let test : ltb at (length file) ≡ false = grind (arith, nat_tests) in
    rw test refl

blobs_all : (blobs : List (List ℕ)) (parts : List OsmMap) (most : ℕ) (file front : List ℕ) (m : OsmMap) → Pairwise IsAnyBlob blobs parts → file ≡ front ++ joined blobs → length (joined blobs) ≤ most → blobs_from most file false m (length front) ≡ Ok (plus m (together parts))
blobs_all [] [] most file front m h e room =
    rw (append-nil m.nodes, append-nil m.ways) (blobs_none most file m (length front) (rw (e, append-nil front) (omega arith)))
blobs_all [] (part ∷ parts) most file front m h e room = absurd h
blobs_all (blob ∷ blobs) [] most file front m h e room = absurd h
blobs_all (blob ∷ blobs) (part ∷ parts) most file front m h e room =
    let grouped : plus (plus m part) (together parts) ≡ plus m (together (part ∷ parts)) = rw (append_assoc m.nodes part.nodes (together parts).nodes, append_assoc m.ways part.ways (together parts).ways) refl in
    let read = blob_step most h.0.0 file front (joined blobs) blob (length front) false m part (plus (plus m part) (together parts)) h.0.1 (record { whole = e; place = refl }) refl room
    (λ left longer e2 room2. blobs_all blobs parts left file longer (plus m part) h.1 e2 room2) in
    read ∙ ap (λ (n : OsmMap). Ok n) grouped

pub file_read : FilesAreRead
unfolding reads
file_read file m h =
    let first = h.header in
    let named : (true && not (bytes_eq first.name (codes "OSMHeader"))) ≡ false = rw first.named refl in
    let size : length file ≡ length (h.first ++ joined h.blobs) = ap length h.text in
    rw h.all (blob_step (length file) Kind.Header file [] (joined h.blobs) h.first 0 true no_map no_map (together h.parts) first (record { whole = h.text; place = refl }) named (omega arith)
    (λ left longer e2 room2. blobs_all h.blobs h.parts left file longer no_map h.blobs_are e2 room2))
