-- Groups and blocks (OSM wiki, "PBF Format": "Definition of the OSMData fileblock").
use Rattle.std.specs.Prelude.{◌≡◌, ℕ, ℤ, pos, List, [], ◌∷◌, ◌++◌, take, Option, Some, None, Ok, IsUtf8}
use Rattle.std.specs.List.{AllByRecursion}
use Rattle.gh_base.specs.declared.map.OsmNode.{OsmNode}
use Rattle.gh_base.specs.declared.map.OsmMap.{OsmMap}
use Rattle.pbf_wire.specs.declared.fields.Piece.{Piece}
use Rattle.pbf_wire.specs.declared.messages.Scale.{Scale}
use Rattle.pbf_wire.specs.Groups.{group_of, group_with}
use Rattle.pbf_wire.specs.Blocks.{block_with}
use Rattle.pbf_file_laws.specs.Messages.{Entry, IsMessage}
use Rattle.pbf_file_laws.specs.Saying.{scalar, contents, joined, Pairwise, IsInt64, IsInt32}
use Rattle.pbf_file_laws.specs.Reading.{Stands}
use Rattle.pbf_file_laws.specs.Nodes.{IsNode, IsDense}
use Rattle.pbf_file_laws.specs.Ways.{IsWay}

-- the values of a message that isn't repeated are one message, joined; without a value there are no nodes
abbrev pub AreDense : Scale → List (List ℕ) → List OsmNode → Type 0
AreDense scale [] nodes = nodes ≡ []
AreDense scale (content ∷ more) nodes = IsDense scale (joined (content ∷ more)) nodes

-- these bytes are a PrimitiveGroup, and with these strings and this scale this part of a map: nodes=1, dense=2, ways=3;
-- plain nodes come before dense ones, and relations and changesets are passed over
pub record IsGroup (texts : List (List ℕ)) (scale : Scale) (bytes : List ℕ) (part : OsmMap) : Type 0 where
  pub entries : List Entry
  pub written : IsMessage bytes entries
  pub nodes : List OsmNode
  pub nodes_are : Pairwise (IsNode scale) (contents 1 entries) nodes
  pub dense : List OsmNode
  pub dense_are : AreDense scale (contents 2 entries) dense
  pub both : part.nodes ≡ nodes ++ dense
  pub ways_are : Pairwise (IsWay texts) (contents 3 entries) part.ways

abbrev pub no_map : OsmMap
no_map = record { nodes = []; ways = [] }

-- a map, and another behind it
abbrev pub plus : OsmMap → OsmMap → OsmMap
plus one other = record { nodes = one.nodes ++ other.nodes; ways = one.ways ++ other.ways }

abbrev pub together : List OsmMap → OsmMap
together [] = no_map
together (part ∷ parts) = plus part (together parts)

-- these bytes are a StringTable of these texts: s=1
pub record IsTable (bytes : List ℕ) (texts : List (List ℕ)) : Type 0 where
  pub entries : List Entry
  pub written : IsMessage bytes entries
  pub strings : texts ≡ contents 1 entries
  pub are : AllByRecursion IsUtf8 (contents 1 entries)

-- an int32, 100 where it isn't there
abbrev pub IsGranularity : Option ℕ → ℤ → Type 0
IsGranularity None z = z ≡ pos 100
IsGranularity (Some number) z = IsInt32 number z

-- an int64, 0 where it isn't there
abbrev pub IsOffset : Option ℕ → ℤ → Type 0
IsOffset None z = z ≡ pos 0
IsOffset (Some number) z = IsInt64 number z

-- these bytes are a PrimitiveBlock, and this part of a map: stringtable=1, primitivegroup=2, granularity=17, lat_offset=19, lon_offset=20
pub record IsBlock (bytes : List ℕ) (part : OsmMap) : Type 0 where
  pub entries : List Entry
  pub written : IsMessage bytes entries
  pub texts : List (List ℕ)
  pub table : IsTable (joined (contents 1 entries)) texts
  pub scale : Scale
  pub granularity : IsGranularity (scalar 17 entries) scale.granularity
  pub lat_offset : IsOffset (scalar 19 entries) scale.lat_offset
  pub lon_offset : IsOffset (scalar 20 entries) scale.lon_offset
  pub groups : List OsmMap
  pub groups_are : Pairwise (IsGroup texts scale) (contents 2 entries) groups
  pub all : part ≡ together groups

-- a group that stands somewhere is read as this part, behind what is there
abbrev pub GroupReads : List (List ℕ) → Scale → OsmMap → List ℕ → ℕ → OsmMap → Type 0
GroupReads texts scale m bytes at part = ((group_of bytes at).bad ≡ None) × (group_with texts scale m (group_of bytes at) ≡ Ok (plus m part))

abbrev pub GroupsAreRead : Type 0
GroupsAreRead = (texts : List (List ℕ)) (scale : Scale) (m : OsmMap) (bytes content : List ℕ) (at : ℕ) (part : OsmMap) → Stands bytes at content → IsGroup texts scale content part → GroupReads texts scale m bytes at part

-- and so is a block
abbrev pub BlocksAreRead : Type 0
BlocksAreRead = (file content : List ℕ) (m : OsmMap) (piece : Piece) (part : OsmMap) → Stands (take piece.end file) piece.start content → IsBlock content part → block_with file m piece ≡ Ok (plus m part)
