-- What is read of a PBF file that was cut.
use Rattle.std.specs.Prelude.{◌≡◌, ◌↔◌, ℕ, ◌+◌, ◌<◌, ◌≤◌, zero, suc, List, ◌++◌, length, take, drop, Option, Some, None, Ok, Err, IsOk, IfOk}
use Rattle.std.specs.Option.{option_map, option_and_then}
use Rattle.byteorder.specs.Endian.{big_number}
use Rattle.gh_base.specs.declared.kinds.PbfKind.TheVariants.{Truncated, NoHeader}
use Rattle.gh_base.specs.declared.map.OsmMap.{OsmMap}
use Rattle.pbf_wire.specs.Runs.{run_of}
use Rattle.pbf_wire.specs.Pieces.{scalar_of}
use Rattle.pbf_wire.specs.Files.{reads}

-- where a blob ends: four bytes are the length of its BlobHeader, whose datasize=3 is that of its Blob
unfoldable pub blob_end : List ℕ → ℕ → Option ℕ
blob_end file at =
    let start = at + 4 in
    let end = start + big_number 4 (drop at file) in
    option_map (λ datasize. end + datasize) (scalar_of 3 None (run_of (take end file) start).fields)

-- where so many blobs end, each of which begins where the one before it ends
abbrev pub blobs_end : ℕ → List ℕ → ℕ → Option ℕ
blobs_end zero file at = Some at
blobs_end (suc blobs) file at = option_and_then (blobs_end blobs file) (blob_end file at)

-- a blob of the file ends at a place: the first, or one behind it
abbrev pub IsBlobEnd : List ℕ → ℕ → Type 0
IsBlobEnd file n = (more : ℕ) × (blobs_end (suc more) file 0 ≡ Some n)

-- a list, and maybe some more behind it
pub record Begins {A : Type 0} (part whole : List A) : Type 0 where
  pub more : List A
  pub joined : whole ≡ part ++ more

-- the first nodes and the first ways of a map
pub record IsFirstOf (part whole : OsmMap) : Type 0 where
  pub nodes : Begins part.nodes whole.nodes
  pub ways : Begins part.ways whole.ways

-- the first n bytes are read exactly where a blob ends, as the first nodes and ways; else they are cut
pub record IsToldAt (file : List ℕ) (whole : OsmMap) (n : ℕ) : Type 0 where
  pub read : IsOk (reads (take n file)) ↔ IsBlobEnd file n
  pub part : IfOk (reads (take n file)) (λ part. IsFirstOf part whole)
  pub cut : 0 < n → (IsBlobEnd file n → ⊥) → reads (take n file) ≡ Err (n, Truncated)
  pub empty : n ≡ 0 → reads (take n file) ≡ Err (0, NoHeader)

-- of a file that is read, each front is told so
abbrev pub FrontsAreTold : Type 0
FrontsAreTold = (file : List ℕ) (whole : OsmMap) → reads file ≡ Ok whole →
    (n : ℕ) → n ≤ length file → IsToldAt file whole n
