-- The restrictions of a file, blob by blob.
use Rattle.std.proofs.lemmas.Bool.Decides.{nat_tests}
use Rattle.std.specs.Result.{result_ok}
use Rattle.std.proofs.Common.{◌≡◌, ℕ, ◌+◌, ◌<◌, ◌≤◌, zero, suc, List, [], ◌++◌, length, Bool, Option, Some, None, true, false, ltb, refl, sym, ap, ◌∙◌, append_assoc, append-nil, arith}
use Rattle.pbf_wire.specs.declared.messages.BlobHeader.{BlobHeader}
use Rattle.pbf_wire.specs.Blobs.{header_at}
use Rattle.turn_graph.specs.declared.turn.Turn.{Turn}
use Rattle.turn_pbf.specs.PbfTurns.{blob_turns, turns_behind, turns_from, pbf_turns}

-- those so far, and those of the blobs from this place on, are all
pub record AreLeft (file : List ℕ) (first : Bool) (turns : List Turn) (at : ℕ) : Type 0 where
  pub most : ℕ
  pub room : length file ≤ at + most
  pub same : turns ++ turns_from most file first at ≡ pbf_turns file

pub start_blobs : (file : List ℕ) (turns : List Turn) → turns ≡ [] → AreLeft file true turns 0
start_blobs file turns e = record { most = length file; room = omega arith; same = rw e refl }

opened : (most : ℕ) (file : List ℕ) (first : Bool) (turns : List Turn) (at : ℕ) → length file ≤ at + most → turns ++ turns_from most file first at ≡ pbf_turns file → at < length file →
    (less : ℕ) × ((most ≡ suc less) × (turns ++ turns_behind (turns_from less file false) file (result_ok (header_at file first at)) ≡ pbf_turns file))
opened zero file first turns at room same inside = absurd (omega arith)
opened (suc less) file first turns at room same inside =
    let test : ltb at (length file) ≡ true = grind (arith, nat_tests) in
    (less, (refl, rw test at same))

pub next_blob : (file : List ℕ) (first : Bool) (turns more : List Turn) (at : ℕ) (header : BlobHeader) → AreLeft file first turns at → at < length file →
    Some header ≡ result_ok (header_at file first at) → at < header.end → more ≡ turns ++ blob_turns file header → AreLeft file false more (header.end + header.datasize)
next_blob file first turns more at header f inside is on adds =
    let o = opened f.most file first turns at f.room f.same inside in
    let room : length file ≤ at + suc o.0 = rw o.1.0 at f.room in
    record { most = o.0; room = omega arith; same = rw adds (append_assoc turns (blob_turns file header) (turns_from o.0 file false (header.end + header.datasize)) ∙ rw (← is) at o.1.1) }

pub no_header : (file : List ℕ) (first : Bool) (turns : List Turn) (at : ℕ) → AreLeft file first turns at → at < length file → None ≡ result_ok (header_at file first at) → turns ≡ pbf_turns file
no_header file first turns at f inside is =
    let o = opened f.most file first turns at f.room f.same inside in
    sym (append-nil turns) ∙ rw (← is) at o.1.1

end_at : (most : ℕ) (file : List ℕ) (first : Bool) (turns : List Turn) (at : ℕ) → turns ++ turns_from most file first at ≡ pbf_turns file → length file ≤ at → turns ≡ pbf_turns file
end_at zero file first turns at same done = sym (append-nil turns) ∙ same
end_at (suc most) file first turns at same done =
    let test : ltb at (length file) ≡ false = grind (arith, nat_tests) in
    sym (append-nil turns) ∙ rw test at same

pub end_blobs : (file : List ℕ) (first : Bool) (turns : List Turn) (at : ℕ) → AreLeft file first turns at → length file ≤ at → turns ≡ pbf_turns file
end_blobs file first turns at f done = end_at f.most file first turns at f.same done
