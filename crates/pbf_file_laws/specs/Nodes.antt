-- Nodes, plain and dense (OSM wiki, "PBF Format": "Definition of the OSMData fileblock", "Nodes").
use Rattle.std.specs.Prelude.{◌≡◌, ◌≢◌, ◌⊎◌, ℕ, ◌%◌, ◌^◌, ◌≤◌, ℤ, pos, ◌+ℤ◌, ◌*ℤ◌, ◌≤ℤ◌, nat_abs, List, [], ◌∷◌, ◌++◌, length, map, Some, None, Ok}
use Rattle.std.specs.List.{AllByRecursion}
use Rattle.gh_base.specs.declared.map.OsmNode.{OsmNode}
use Rattle.gh_base.specs.Places.{most_lat, most_lon}
use Rattle.gh_base.specs.Maps.{IsShort}
use Rattle.pbf_wire.specs.declared.fields.Piece.{Piece}
use Rattle.pbf_wire.specs.declared.messages.Scale.{Scale}
use Rattle.pbf_wire.specs.Pieces.{joined_of}
use Rattle.pbf_wire.specs.Nodes.{node_of, node_with}
use Rattle.pbf_wire.specs.Dense.{dense_of, dense_with}
use Rattle.pbf_file_laws.specs.Messages.{Entry, IsMessage}
use Rattle.pbf_file_laws.specs.Saying.{scalar, Lists, Pairwise, sint, differences}
use Rattle.pbf_file_laws.specs.Reading.{Stands}

-- granularity times value and the offset, in 1e-9 degree, rounded down to 1e-7 degree
pub record IsCoordinate (most : ℕ) (granularity offset value unit : ℤ) : Type 0 where
  pub low : (pos 100 *ℤ unit) ≤ℤ (offset +ℤ (granularity *ℤ value))
  pub high : ((offset +ℤ (granularity *ℤ value)) +ℤ pos 1) ≤ℤ ((pos 100 *ℤ unit) +ℤ pos 100)
  pub near : nat_abs unit ≤ most

-- these bytes are a Node, and with this scale this node: id=1, lat=8, lon=9
pub record IsNode (scale : Scale) (bytes : List ℕ) (node : OsmNode) : Type 0 where
  pub entries : List Entry
  pub written : IsMessage bytes entries
  pub id : scalar 1 entries ≡ Some (sint node.id)
  pub short : IsShort node.id
  pub lat : ℤ
  pub lat_says : scalar 8 entries ≡ Some (sint lat)
  pub lat_is : IsCoordinate most_lat scale.granularity scale.lat_offset lat node.place.lat
  pub lon : ℤ
  pub lon_says : scalar 9 entries ≡ Some (sint lon)
  pub lon_is : IsCoordinate most_lon scale.granularity scale.lon_offset lon node.place.lon

-- key and value of a dense node's tag, as they stand in the table of strings
pub record TagAt : Type 0 where
  pub key : ℕ
  pub value : ℕ

abbrev pub pairs : List TagAt → List ℕ
pairs [] = []
pairs (tag ∷ tags) = tag.key ∷ tag.value ∷ pairs tags

-- the tags of each node, with 0 behind each node's
abbrev pub keys_vals : List (List TagAt) → List ℕ
keys_vals [] = []
keys_vals (tags ∷ more) = pairs tags ++ 0 ∷ keys_vals more

-- no key is 0
abbrev pub HasKey : TagAt → Type 0
HasKey tag = tag.key % 2 ^ 32 ≢ 0

-- the tags of so many nodes
pub record AreKeysVals (count : ℕ) (numbers : List ℕ) : Type 0 where
  pub tags : List (List TagAt)
  pub text : numbers ≡ keys_vals tags
  pub each : length tags ≡ count
  pub keys : AllByRecursion (AllByRecursion HasKey) tags

-- these bytes are DenseNodes, and with this scale these nodes: id=1, lat=8, lon=9, each the difference from the one before it, and keys_vals=10,
-- which is left out where no node has tags
pub record IsDense (scale : Scale) (bytes : List ℕ) (nodes : List OsmNode) : Type 0 where
  pub entries : List Entry
  pub written : IsMessage bytes entries
  pub ids : Lists 1 entries (differences (pos 0) (map (λ node. node.id) nodes))
  pub short : AllByRecursion IsShort (map (λ node. node.id) nodes)
  pub lats : List ℤ
  pub lats_say : Lists 8 entries (differences (pos 0) lats)
  pub lats_are : Pairwise (IsCoordinate most_lat scale.granularity scale.lat_offset) lats (map (λ node. node.place.lat) nodes)
  pub lons : List ℤ
  pub lons_say : Lists 9 entries (differences (pos 0) lons)
  pub lons_are : Pairwise (IsCoordinate most_lon scale.granularity scale.lon_offset) lons (map (λ node. node.place.lon) nodes)
  pub tags : List ℕ
  pub tags_say : Lists 10 entries tags
  pub tags_are : (tags ≡ []) ⊎ AreKeysVals (length nodes) tags

-- a Node that stands somewhere is read as this node
abbrev pub NodeReads : Scale → List ℕ → ℕ → OsmNode → Type 0
NodeReads scale bytes at node = ((node_of bytes at).bad ≡ None) × (node_with scale (node_of bytes at) ≡ Ok node)

abbrev pub NodesAreRead : Type 0
NodesAreRead = (scale : Scale) (bytes content : List ℕ) (at : ℕ) (node : OsmNode) → Stands bytes at content → IsNode scale content node → NodeReads scale bytes at node

-- DenseNodes that stand in one stretch or in several are read as these nodes
abbrev pub DenseReads : Scale → List ℕ → List Piece → ℕ → List OsmNode → Type 0
DenseReads scale bytes pieces place nodes = ((dense_of bytes pieces place).bad ≡ None) × (dense_with scale (dense_of bytes pieces place) ≡ Ok nodes)

abbrev pub DenseNodesAreRead : Type 0
DenseNodesAreRead = (scale : Scale) (bytes content : List ℕ) (pieces : List Piece) (place : ℕ) (nodes : List OsmNode) → joined_of bytes pieces ≡ content → IsDense scale content nodes → DenseReads scale bytes pieces place nodes
