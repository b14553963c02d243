-- A HeaderBlock: required_features=4 repeated bytes (OSM wiki, "PBF Format": "Definition of the OSMHeader fileblock").
use Rattle.std.specs.Prelude.{ℕ, List, [], ◌∷◌, take, Bool, not, ◌&&◌, ◌||◌, Result, Ok, codes, unwrap_or}
use Rattle.std.specs.Str.{bytes_eq}
use Rattle.gh_base.specs.declared.kinds.PbfKind.{PbfKind}
use Rattle.gh_base.specs.declared.kinds.PbfKind.TheVariants.{Feature}
use Rattle.pbf_wire.specs.declared.fields.Spot.{Spot}
use Rattle.pbf_wire.specs.declared.fields.Piece.{Piece}
use Rattle.pbf_wire.specs.Faults.{◌>>◌, refuse, is_run}
use Rattle.pbf_wire.specs.Runs.{run_of}
use Rattle.pbf_wire.specs.Pieces.{is_bytes, part_of}
use Rattle.pbf_wire.specs.Blocks.{text_in}

-- the features that a reader has
abbrev pub is_known : List ℕ → Bool
is_known name = bytes_eq name (codes "OsmSchema-V0.6") || bytes_eq name (codes "DenseNodes")

-- a name that isn't text is given as empty
abbrev pub name_of : List ℕ → List ℕ
name_of bytes = unwrap_or (text_in bytes) []

-- each required feature among these fields is known, or the first that isn't
abbrev pub features_in : List ℕ → List Spot → Result (Unit {0}) (ℕ × PbfKind)
features_in bytes [] = Ok tt
features_in bytes (spot ∷ spots) = do
  let name = part_of bytes spot.field.start spot.field.end
  refuse (is_bytes 4 spot && not (is_known name)) spot.key (Feature (name_of name))
  features_in bytes spots

-- the HeaderBlock in a stretch has no fault, or its first
unfoldable pub header_block : List ℕ → Piece → Result (Unit {0}) (ℕ × PbfKind)
header_block file piece = do
  let bytes = take piece.end file
  let run = run_of bytes piece.start
  is_run run.bad
  features_in bytes run.fields
