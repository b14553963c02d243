-- A blob that stands whole in a front of a file gives what it gives in the file.
use Rattle.std.proofs.lemmas.List.{length-take}
use Rattle.std.proofs.Common.{◌≡◌, ℕ, ◌+◌, ◌≤◌, List, length, take, codes, not, Option, None, Result, Ok, refl, subst, arith}
use Rattle.std.specs.Prelude.{IfOk, IfSome, ◌==◌}
use Rattle.gh_base.specs.declared.kinds.PbfKind.{PbfKind}
use Rattle.gh_base.specs.declared.kinds.PbfKind.TheVariants.{NoData, Compressed}
use Rattle.gh_base.specs.declared.map.OsmMap.{OsmMap}
use Rattle.pbf_wire.specs.declared.fields.Spot.{Spot}
use Rattle.pbf_wire.specs.declared.fields.Piece.{Piece}
use Rattle.pbf_wire.specs.declared.messages.BlobHeader.{BlobHeader}
use Rattle.pbf_wire.specs.Wire.{◌>>=◌}
use Rattle.pbf_wire.specs.Faults.{◌>>◌, refuse, or_fault, is_run}
use Rattle.pbf_wire.specs.Runs.{run_of}
use Rattle.pbf_wire.specs.Blocks.{block_with}
use Rattle.pbf_wire.specs.Headers.{header_block}
use Rattle.pbf_wire.specs.Blobs.{last_content, content_at, blob_with}
use Rattle.pbf_cuts.proofs.Steps.{after_skip, after_value, same_after}
use Rattle.pbf_cuts.proofs.Inside.{IsInside, fields_inside, content_inside}
use Rattle.pbf_cuts.proofs.Headers.{IsCut, named_there}

same_content : (file front : List ℕ) (start end : ℕ) → IsCut file front → end ≤ length front → content_at front start end ≡ content_at file start end
unfolding content_at
same_content file front start end cut inside = rw (cut.same end inside) refl

abbrev EndsBy : ℕ → Piece → Type 0
EndsBy end piece = piece.end ≤ end

content_ends : (file : List ℕ) (start end : ℕ) → IfOk (content_at file start end) (EndsBy end)
unfolding content_at
content_ends file start end =
    let bytes = take end file in
    let run = run_of bytes start in
    let made : Spot → Result Piece (ℕ × PbfKind) = λ spot. Ok (record { start = spot.field.start; end = spot.field.end }) in
    let tested = λ (spot : Spot). refuse (not (spot.field.number == 1)) spot.key (Compressed spot.field.number) >> made spot in
    let found = last_content None run.fields in
    after_skip (is_run run.bad) (or_fault found start NoData >>= λ spot. tested spot) (EndsBy end) (
    after_value found start NoData (λ spot. tested spot) (EndsBy end) (λ spot is.
    after_skip (refuse (not (spot.field.number == 1)) spot.key (Compressed spot.field.number)) (made spot) (EndsBy end) (
    let there : spot.field.end ≤ length bytes = subst (λ (o : Option Spot). IfSome o (IsInside bytes)) is (content_inside bytes None run.fields tt (fields_inside bytes start)) in
    let most = length-take end file in
    omega arith)))

same_features : (file front : List ℕ) (piece : Piece) → IsCut file front → piece.end ≤ length front → header_block front piece ≡ header_block file piece
unfolding header_block
same_features file front piece cut inside = rw (cut.same piece.end inside) refl

same_block : (file front : List ℕ) (m : OsmMap) (piece : Piece) → IsCut file front → piece.end ≤ length front → block_with front m piece ≡ block_with file m piece
unfolding block_with
same_block file front m piece cut inside = rw (cut.same piece.end inside) refl

pub same_blob : (file front : List ℕ) (m : OsmMap) (header : BlobHeader) → IsCut file front → header.name.end ≤ length front → header.end + header.datasize ≤ length front → blob_with front m header ≡ blob_with file m header
unfolding blob_with
same_blob file front m header cut named inside =
    let end = header.end + header.datasize in
    let found = content_at file header.end end in
    let as_header : (found >>= λ piece. header_block front piece >> Ok m) ≡ (found >>= λ piece. header_block file piece >> Ok m) =
    same_after found (λ piece. header_block front piece >> Ok m) (λ piece. header_block file piece >> Ok m) (EndsBy end) (content_ends file header.end end) (λ piece by. rw (same_features file front piece cut (omega arith)) refl) in
    let as_block : (found >>= λ piece. block_with front m piece) ≡ (found >>= λ piece. block_with file m piece) =
    same_after found (λ piece. block_with front m piece) (λ piece. block_with file m piece) (EndsBy end) (content_ends file header.end end) (λ piece by. same_block file front m piece cut (omega arith)) in
    let is_header = named_there (codes "OSMHeader") file front header.name cut named in
    let is_data = named_there (codes "OSMData") file front header.name cut named in
    let content = same_content file front header.end end cut inside in
    rw (is_header, is_data, content, as_header, as_block) refl
