-- A file, blob by blob.
use Rattle.std.proofs.lemmas.Bool.Decides.{nat_tests}
use Rattle.std.proofs.Common.{◌≡◌, ℕ, ◌+◌, ◌<◌, ◌≤◌, zero, suc, List, [], length, Bool, Result, Ok, Err, true, false, ltb, refl, sym, arith}
use Rattle.gh_base.specs.declared.map.OsmMap.{OsmMap}
use Rattle.gh_base.specs.declared.kinds.PbfKind.{PbfKind}
use Rattle.gh_base.specs.declared.kinds.PbfKind.TheVariants.{NoHeader}
use Rattle.pbf_wire.specs.declared.messages.BlobHeader.{BlobHeader}
use Rattle.pbf_wire.specs.Wire.{◌>>=◌}
use Rattle.pbf_wire.specs.Blobs.{header_at, blob_with}
use Rattle.pbf_wire.specs.Files.{blobs_from, reads}

-- the blobs from this place on give the whole
pub record IsLeft (file : List ℕ) (first : Bool) (m : OsmMap) (at : ℕ) (whole : Result OsmMap (ℕ × PbfKind)) : Type 0 where
  pub most : ℕ
  pub room : length file ≤ at + most
  pub same : blobs_from most file first m at ≡ whole

pub start_file : (file : List ℕ) (m : OsmMap) → m ≡ record { nodes = []; ways = [] } → IsLeft file true m 0 (reads file)
unfolding reads
start_file file m e = record { most = length file; room = omega arith; same = rw e refl }

opened : (most : ℕ) (file : List ℕ) (first : Bool) (m : OsmMap) (at : ℕ) (whole : Result OsmMap (ℕ × PbfKind)) → length file ≤ at + most → blobs_from most file first m at ≡ whole → at < length file →
    (less : ℕ) × ((most ≡ suc less) × ((header_at file first at >>= λ header. blob_with file m header >>= λ n. blobs_from less file false n (header.end + header.datasize)) ≡ whole))
opened zero file first m at whole room same inside = absurd (omega arith)
opened (suc less) file first m at whole room same inside =
    let test : ltb at (length file) ≡ true = grind (arith, nat_tests) in
    (less, (refl, rw test at same))

pub next_blob : (file : List ℕ) (first : Bool) (m n : OsmMap) (at : ℕ) (header : BlobHeader) (whole : Result OsmMap (ℕ × PbfKind)) → IsLeft file first m at whole → at < length file →
    header_at file first at ≡ Ok header → at < header.end → blob_with file m header ≡ Ok n → IsLeft file false n (header.end + header.datasize) whole
next_blob file first m n at header whole f inside is on adds =
    let o = opened f.most file first m at whole f.room f.same inside in
    let room : length file ≤ at + suc o.0 = rw o.1.0 at f.room in
    record { most = o.0; room = omega arith; same = rw (is, adds) at o.1.1 }

pub bad_header : (file : List ℕ) (first : Bool) (m : OsmMap) (at : ℕ) (fault : ℕ × PbfKind) (whole : Result OsmMap (ℕ × PbfKind)) → IsLeft file first m at whole → at < length file →
    header_at file first at ≡ Err fault → whole ≡ Err fault
bad_header file first m at fault whole f inside is =
    let o = opened f.most file first m at whole f.room f.same inside in
    sym (rw is at o.1.1)

pub bad_blob : (file : List ℕ) (first : Bool) (m : OsmMap) (at : ℕ) (header : BlobHeader) (fault : ℕ × PbfKind) (whole : Result OsmMap (ℕ × PbfKind)) → IsLeft file first m at whole → at < length file →
    header_at file first at ≡ Ok header → blob_with file m header ≡ Err fault → whole ≡ Err fault
bad_blob file first m at header fault whole f inside is adds =
    let o = opened f.most file first m at whole f.room f.same inside in
    sym (rw (is, adds) at o.1.1)

end_at : (most : ℕ) (file : List ℕ) (m : OsmMap) (at : ℕ) (whole : Result OsmMap (ℕ × PbfKind)) → blobs_from most file false m at ≡ whole → length file ≤ at → whole ≡ Ok m
end_at zero file m at whole same done = sym same
end_at (suc most) file m at whole same done =
    let test : ltb at (length file) ≡ false = grind (arith, nat_tests) in
    sym (rw test at same)

pub end_file : (file : List ℕ) (m : OsmMap) (at : ℕ) (whole : Result OsmMap (ℕ × PbfKind)) → IsLeft file false m at whole → length file ≤ at → whole ≡ Ok m
end_file file m at whole f done = end_at f.most file m at whole f.same done

none_at : (most : ℕ) (file : List ℕ) (m : OsmMap) (at : ℕ) (whole : Result OsmMap (ℕ × PbfKind)) → blobs_from most file true m at ≡ whole → length file ≤ at → whole ≡ Err (at, NoHeader)
none_at zero file m at whole same done = sym same
none_at (suc most) file m at whole same done =
    let test : ltb at (length file) ≡ false = grind (arith, nat_tests) in
    sym (rw test at same)

pub no_blob : (file : List ℕ) (m : OsmMap) (at : ℕ) (whole : Result OsmMap (ℕ × PbfKind)) → IsLeft file true m at whole → length file ≤ at → whole ≡ Err (at, NoHeader)
no_blob file m at whole f done = none_at f.most file m at whole f.same done
