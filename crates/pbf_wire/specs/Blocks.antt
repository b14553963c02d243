-- A PrimitiveBlock: stringtable=1, primitivegroup=2 repeated, granularity=17, lat_offset=19, lon_offset=20; a StringTable: s=1 repeated
-- (OSM wiki, "PBF Format": "Definition of the OSMData fileblock").
use Rattle.std.specs.Prelude.{ℕ, ◌%◌, ◌^◌, ℤ, pos, List, [], ◌∷◌, length, take, Option, Some, None, Result, Ok, ◌==◌, unwrap_or, if◌then◌else◌}
use Rattle.std.specs.Int.{cast_signed, w32, w64}
use Rattle.std.specs.Str.Lossy.{utf8_valid_len}
use Rattle.gh_base.specs.declared.kinds.PbfKind.{PbfKind}
use Rattle.gh_base.specs.declared.kinds.PbfKind.TheVariants.{BadUtf8}
use Rattle.gh_base.specs.declared.map.OsmMap.{OsmMap}
use Rattle.pbf_wire.specs.declared.fields.Spot.{Spot}
use Rattle.pbf_wire.specs.declared.fields.Piece.{Piece}
use Rattle.pbf_wire.specs.declared.messages.Group.{Group}
use Rattle.pbf_wire.specs.declared.messages.Groups.{Groups}
use Rattle.pbf_wire.specs.declared.messages.Block.{Block}
use Rattle.pbf_wire.specs.declared.messages.Scale.{Scale}
use Rattle.pbf_wire.specs.Wire.{◌>>=◌}
use Rattle.pbf_wire.specs.Faults.{◌>>◌, or_fault, is_run}
use Rattle.pbf_wire.specs.Runs.{run_of, least}
use Rattle.pbf_wire.specs.Pieces.{is_bytes, scalar_of, pieces_of, part_of, joined_of, place_in, placed}
use Rattle.pbf_wire.specs.Groups.{group_of, group_with}

-- the groups among the fields of a block, as they are written
abbrev pub groups_of : List ℕ → List Spot → Groups
groups_of bytes [] = record { groups = []; bad = None }
groups_of bytes (spot ∷ spots) =
    if is_bytes 2 spot then
    (let group = group_of (take spot.field.end bytes) spot.field.start in
    let rest = groups_of bytes spots in
    record { groups = group ∷ rest.groups; bad = least group.bad rest.bad })
    else groups_of bytes spots

-- the block from a place to the end, as it is written
unfoldable pub block_of : List ℕ → ℕ → Block
block_of bytes at =
    let run = run_of bytes at in
    let pieces = pieces_of 1 run.fields in
    let table = joined_of bytes pieces in
    let strings = run_of table 0 in
    let groups = groups_of bytes run.fields in
    record {
      table = table;
      pieces = pieces;
      strings = strings.fields;
      granularity = scalar_of 17 None run.fields;
      lat_offset = scalar_of 19 None run.fields;
      lon_offset = scalar_of 20 None run.fields;
      groups = groups.groups;
      bad = least run.bad (least (placed pieces strings.bad) groups.bad);
    }

-- these bytes, where they are UTF-8
abbrev pub text_in : List ℕ → Option (List ℕ)
text_in bytes = if utf8_valid_len bytes == length bytes then Some bytes else None

-- the strings of a table, or the first that isn't text
abbrev pub texts_in : List ℕ → List Piece → List Spot → Result (List (List ℕ)) (ℕ × PbfKind)
texts_in table pieces [] = Ok []
texts_in table pieces (spot ∷ spots) =
    if is_bytes 1 spot then (do
      text ← or_fault (text_in (part_of table spot.field.start spot.field.end)) (place_in pieces spot.key) BadUtf8
      texts ← texts_in table pieces spots
      Ok (text ∷ texts))
    else texts_in table pieces spots

-- an int32 is the low 32 bits, with a sign
abbrev pub granularity_of : Option ℕ → ℤ
granularity_of None = pos 100
granularity_of (Some n) = cast_signed w32 (n % 2 ^ 32)

abbrev pub scale_of : Block → Scale
scale_of block = record { granularity = granularity_of block.granularity; lat_offset = cast_signed w64 (unwrap_or block.lat_offset 0); lon_offset = cast_signed w64 (unwrap_or block.lon_offset 0) }

-- a map with these groups, in order
abbrev pub groups_with : List (List ℕ) → Scale → OsmMap → List Group → Result OsmMap (ℕ × PbfKind)
groups_with texts scale m [] = Ok m
groups_with texts scale m (group ∷ groups) = group_with texts scale m group >>= λ n. groups_with texts scale n groups

-- a map with the block in a stretch, or the first fault of the block
unfoldable pub block_with : List ℕ → OsmMap → Piece → Result OsmMap (ℕ × PbfKind)
block_with file m piece = do
  let block = block_of (take piece.end file) piece.start
  is_run block.bad
  texts ← texts_in block.table block.pieces block.strings
  groups_with texts (scale_of block) m block.groups
