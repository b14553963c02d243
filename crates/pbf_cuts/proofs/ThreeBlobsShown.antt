-- The file of three blobs, by computing it.
use Rattle.std.proofs.lemmas.Option.{same_Some}
use Rattle.std.proofs.Common.{◌≡◌, ℕ, ◌<◌, ◌≤◌, inl, inr, zero, suc, length, take, Some, Result, Ok, Err, refl, sym, arith}
use Rattle.std.specs.Str.Lossy.{utf8_valid_len}
use Rattle.std.specs.Str.{is_utf8, chars}
use lib.Utf8.{encode}
use Rattle.std.specs.Prelude.{◌↔◌, IsOk}
use Rattle.gh_base.specs.declared.kinds.PbfKind.{PbfKind}
use Rattle.gh_base.specs.declared.kinds.PbfKind.TheVariants.{Truncated, NoHeader}
use Rattle.gh_base.specs.declared.map.OsmMap.{OsmMap}
use Rattle.pbf_wire.specs.Wire.{varint_front, varint_at, value_of, behind_key, field_of}
use Rattle.pbf_wire.specs.Runs.{run_of}
use Rattle.pbf_wire.specs.Lists.{varints_of}
use Rattle.pbf_wire.specs.Deltas.{coordinate_of}
use Rattle.pbf_wire.specs.Nodes.{node_of, node_with}
use Rattle.pbf_wire.specs.Dense.{dense_of, dense_with}
use Rattle.pbf_wire.specs.Ways.{way_of, way_with}
use Rattle.pbf_wire.specs.Groups.{message_in, group_of, message_with, group_with}
use Rattle.pbf_wire.specs.Blocks.{block_of, block_with}
use Rattle.pbf_wire.specs.Headers.{header_block}
use Rattle.pbf_wire.specs.Blobs.{header_length, header_at, content_at, blob_with}
use Rattle.pbf_wire.specs.Files.{reads}
use Rattle.pbf_cuts.specs.Cuts.{blob_end, blobs_end, IsBlobEnd, IsToldAt}
use Rattle.pbf_cuts.specs.ThreeBlobs.{three_blobs, IsOneOfThreeEnds}
use Rattle.pbf_cuts.proofs.Fronts.{ends_behind, fronts_told}

three_length : length three_blobs ≡ 143
unfolding three_blobs
three_length = refl

first_end : blob_end three_blobs 0 ≡ Some 47
unfolding blob_end run_of field_of behind_key value_of varint_at varint_front three_blobs
first_end = refl

second_end : blob_end three_blobs 47 ≡ Some 86
unfolding blob_end run_of field_of behind_key value_of varint_at varint_front three_blobs
second_end = refl

third_end : blob_end three_blobs 86 ≡ Some 143
unfolding blob_end run_of field_of behind_key value_of varint_at varint_front three_blobs
third_end = refl

three_read : IsOk (reads three_blobs)
unfolding reads header_length header_at content_at blob_with header_block block_of block_with message_in group_of message_with group_with way_of way_with dense_of dense_with node_of node_with coordinate_of varints_of run_of field_of behind_key value_of varint_at varint_front utf8_valid_len is_utf8 chars encode three_blobs
three_read = refl

end_by : (more n : ℕ) → n ≤ 143 → blobs_end (suc more) three_blobs 0 ≡ Some n → IsOneOfThreeEnds n
end_by zero n most is =
    let here : Some 47 ≡ Some n = rw first_end at is in
    inl (sym (same_Some 47 n here))
end_by (suc zero) n most is =
    let here : Some 86 ≡ Some n = rw (first_end, second_end) at is in
    inr (inl (sym (same_Some 86 n here)))
end_by (suc (suc zero)) n most is =
    let here : Some 143 ≡ Some n = rw (first_end, second_end, third_end) at is in
    inr (inr (sym (same_Some 143 n here)))
end_by (suc (suc (suc more))) n most is =
    let rest : blobs_end (suc more) three_blobs 143 ≡ Some n = rw (first_end, second_end, third_end) at is in
    let behind = ends_behind three_blobs 143 n (more, rest) in
    absurd (omega arith)

is_end : (n : ℕ) → IsOneOfThreeEnds n → IsBlobEnd three_blobs n
is_end n (inl e) = rw e (0, rw first_end refl)
is_end n (inr (inl e)) = rw e (1, rw (first_end, second_end) refl)
is_end n (inr (inr e)) = rw e (2, rw (first_end, second_end, third_end) refl)

its_map : (r : Result OsmMap (ℕ × PbfKind)) → IsOk r → (m : OsmMap) × (r ≡ Ok m)
its_map (Ok m) ok = (m, refl)
its_map (Err k) ok = cc

told_at : (m : OsmMap) → reads three_blobs ≡ Ok m → (n : ℕ) → n ≤ 143 → IsToldAt three_blobs m n
told_at m is n most = fronts_told three_blobs m is n (rw three_length most)

read_by : (m : OsmMap) → reads three_blobs ≡ Ok m → (n : ℕ) → n ≤ 143 → IsOk (reads (take n three_blobs)) ↔ IsOneOfThreeEnds n
read_by m is n most =
    let told = told_at m is n most in
    (λ ok. let end = told.read.0 ok in end_by end.0 n most end.1, λ one. told.read.1 (is_end n one))

cut_by : (m : OsmMap) → reads three_blobs ≡ Ok m → (n : ℕ) → 0 < n → n ≤ 143 → (IsOneOfThreeEnds n → ⊥) → reads (take n three_blobs) ≡ Err (n, Truncated)
cut_by m is n some most apart = (told_at m is n most).cut some (λ end. apart (end_by end.0 n most end.1))

empty_by : (m : OsmMap) → reads three_blobs ≡ Ok m → reads (take 0 three_blobs) ≡ Err (0, NoHeader)
empty_by m is = (told_at m is 0 (omega arith)).empty refl

pub read_exactly : (n : ℕ) → n ≤ 143 → IsOk (reads (take n three_blobs)) ↔ IsOneOfThreeEnds n
read_exactly = let m = its_map (reads three_blobs) three_read in read_by m.0 m.1

pub cut_elsewhere : (n : ℕ) → 0 < n → n ≤ 143 → (IsOneOfThreeEnds n → ⊥) → reads (take n three_blobs) ≡ Err (n, Truncated)
cut_elsewhere = let m = its_map (reads three_blobs) three_read in cut_by m.0 m.1

pub none_without_bytes : reads (take 0 three_blobs) ≡ Err (0, NoHeader)
none_without_bytes = let m = its_map (reads three_blobs) three_read in empty_by m.0 m.1
