-- The restrictions of a file: those of its blocks, group by group.
use Rattle.std.specs.Prelude.{ℕ, ◌+◌, zero, suc, List, [], ◌∷◌, ◌++◌, length, take, Bool, true, false, Option, Some, None, nat_lt, codes, filter_map, if◌then◌else◌}
use Rattle.std.specs.Result.{result_ok}
use Rattle.pbf_wire.specs.declared.fields.Spot.{Spot}
use Rattle.pbf_wire.specs.declared.fields.Piece.{Piece}
use Rattle.pbf_wire.specs.declared.messages.BlobHeader.{BlobHeader}
use Rattle.pbf_wire.specs.Runs.{run_of}
use Rattle.pbf_wire.specs.Pieces.{is_bytes, pieces_of, joined_of}
use Rattle.pbf_wire.specs.Blocks.{texts_in}
use Rattle.pbf_wire.specs.Blobs.{is_named, header_at, content_at}
use Rattle.turn_graph.specs.declared.turn.Turn.{Turn}
use Rattle.turn_texts.specs.Restricting.{◌>>=◌, turn_of}
use Rattle.turn_pbf.specs.PbfRelations.{written_of, relation_with}

-- the restriction that a field of a group is: relations=4
abbrev pub turn_in : List (List ℕ) → List ℕ → Spot → Option Turn
turn_in texts bytes spot =
    if is_bytes 4 spot then (relation_with texts (written_of (take spot.field.end bytes) spot.field.start) >>= turn_of) else None

-- those of the group from a place to the end
abbrev pub group_turns : List (List ℕ) → List ℕ → ℕ → List Turn
group_turns texts bytes at = filter_map (turn_in texts bytes) (run_of bytes at).fields

-- those of the groups among the fields of a block: primitivegroup=2
abbrev pub groups_turns : List (List ℕ) → List ℕ → List Spot → List Turn
groups_turns texts bytes [] = []
groups_turns texts bytes (spot ∷ spots) =
    (if is_bytes 2 spot then group_turns texts (take spot.field.end bytes) spot.field.start else []) ++ groups_turns texts bytes spots

abbrev pub turns_with : Option (List (List ℕ)) → List ℕ → List Spot → List Turn
turns_with None bytes spots = []
turns_with (Some texts) bytes spots = groups_turns texts bytes spots

-- those of the block from a place to the end, with its table of strings: stringtable=1
unfoldable pub block_turns : List ℕ → ℕ → List Turn
block_turns bytes at =
    let run = run_of bytes at in
    let pieces = pieces_of 1 run.fields in
    let table = joined_of bytes pieces in
    turns_with (result_ok (texts_in table pieces (run_of table 0).fields)) bytes run.fields

abbrev pub content_turns : List ℕ → Option Piece → List Turn
content_turns file None = []
content_turns file (Some piece) = block_turns (take piece.end file) piece.start

-- those of the Blob that a header announces
unfoldable pub blob_turns : List ℕ → BlobHeader → List Turn
blob_turns file header =
    if is_named (codes "OSMData") file header.name then content_turns file (result_ok (content_at file header.end (header.end + header.datasize))) else []

abbrev pub turns_behind : (ℕ → List Turn) → List ℕ → Option BlobHeader → List Turn
turns_behind rest file None = []
turns_behind rest file (Some header) = blob_turns file header ++ rest (header.end + header.datasize)

-- those of the Blobs from a place on, at most so many; whether none came before them
abbrev pub turns_from : ℕ → List ℕ → Bool → ℕ → List Turn
turns_from zero file first at = []
turns_from (suc most) file first at =
    if nat_lt at (length file) then turns_behind (turns_from most file false) file (result_ok (header_at file first at)) else []

-- the restrictions of a file, in order
abbrev pub pbf_turns : List ℕ → List Turn
pbf_turns file = turns_from (length file) file true 0
