-- A BlobHeader behind its length: type=1, datasize=3; a Blob: raw=1, or the same compressed as 3 zlib, 4 lzma, 5 bzip2, 6 lz4, 7 zstd
-- (OSM wiki, "PBF Format": "File format").
use Rattle.std.specs.Prelude.{ℕ, ◌+◌, List, [], ◌∷◌, length, take, drop, Bool, not, ◌&&◌, ◌||◌, Option, Some, None, Result, Ok, ◌==◌, nat_lt, nat_le, codes, if◌then◌else◌}
use Rattle.std.specs.Str.{bytes_eq}
use Rattle.byteorder.specs.Endian.{big_number}
use Rattle.gh_base.specs.declared.kinds.PbfKind.{PbfKind}
use Rattle.gh_base.specs.declared.kinds.PbfKind.TheVariants.{Truncated, HeaderTooLong, Missing, BlobTooLong, NoHeader, NoData, Compressed}
use Rattle.gh_base.specs.declared.map.OsmMap.{OsmMap}
use Rattle.pbf_wire.specs.declared.fields.Spot.{Spot}
use Rattle.pbf_wire.specs.declared.fields.Piece.{Piece}
use Rattle.pbf_wire.specs.declared.messages.BlobHeader.{BlobHeader}
use Rattle.pbf_wire.specs.Wire.{◌>>=◌}
use Rattle.pbf_wire.specs.Faults.{◌>>◌, refuse, or_fault, is_run}
use Rattle.pbf_wire.specs.Runs.{run_of}
use Rattle.pbf_wire.specs.Pieces.{scalar_of, pieces_of, last_piece, part_of}
use Rattle.pbf_wire.specs.Blocks.{block_with}
use Rattle.pbf_wire.specs.Headers.{header_block}

-- the length of a BlobHeader: four bytes, the highest first; a longer one than 64 KiB is refused
unfoldable pub header_length : List ℕ → ℕ → Result ℕ (ℕ × PbfKind)
header_length file at = do
  refuse (nat_lt (length file) (at + 4)) (length file) Truncated
  let size = big_number 4 (drop at file)
  refuse (nat_le 65536 size) at HeaderTooLong
  Ok size

-- whether these bytes stand in a stretch
abbrev pub is_named : List ℕ → List ℕ → Piece → Bool
is_named name file piece = bytes_eq (part_of file piece.start piece.end) name

-- the BlobHeader whose length stands at a place, or its first fault; a Blob has at most 32 MiB and room for a key
unfoldable pub header_at : List ℕ → Bool → ℕ → Result BlobHeader (ℕ × PbfKind)
header_at file first at = do
  size ← header_length file at
  let start = at + 4
  let end = start + size
  refuse (nat_lt (length file) end) (length file) Truncated
  let run = run_of (take end file) start
  is_run run.bad
  name ← or_fault (last_piece None (pieces_of 1 run.fields)) start Missing
  datasize ← or_fault (scalar_of 3 None run.fields) start Missing
  refuse (nat_lt 33555456 datasize) start BlobTooLong
  refuse (first && not (is_named (codes "OSMHeader") file name)) at NoHeader
  refuse (nat_lt (length file) (end + datasize)) (length file) Truncated
  Ok (record { name = name; datasize = datasize; end = end })

-- whether a field is the content of a Blob
abbrev pub is_content : Spot → Bool
is_content spot = spot.field.wire == 2 && (spot.field.number == 1 || nat_le 3 spot.field.number && nat_le spot.field.number 7)

-- the last content among these fields, or else this one
abbrev pub last_content : Option Spot → List Spot → Option Spot
last_content found [] = found
last_content found (spot ∷ spots) = last_content (if is_content spot then Some spot else found) spots

-- where the content of the Blob between two places stands, or the first fault of the Blob
unfoldable pub content_at : List ℕ → ℕ → ℕ → Result Piece (ℕ × PbfKind)
content_at file start end = do
  let run = run_of (take end file) start
  is_run run.bad
  spot ← or_fault (last_content None run.fields) start NoData
  refuse (not (spot.field.number == 1)) spot.key (Compressed spot.field.number)
  Ok (record { start = spot.field.start; end = spot.field.end })

-- a map with the Blob that a header announces; a Blob of another type is skipped
unfoldable pub blob_with : List ℕ → OsmMap → BlobHeader → Result OsmMap (ℕ × PbfKind)
blob_with file m header =
    if is_named (codes "OSMHeader") file header.name then
    (content_at file header.end (header.end + header.datasize) >>= λ piece. header_block file piece >> Ok m)
    else if is_named (codes "OSMData") file header.name then
    (content_at file header.end (header.end + header.datasize) >>= λ piece. block_with file m piece)
    else Ok m
