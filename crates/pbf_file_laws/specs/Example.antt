-- A whole file, so that it is seen that there are such files: two dense nodes and a way, in two groups, with fields that nobody knows between.
use Rattle.std.specs.Prelude.{ℕ, ◌+◌, ◌*◌, ℤ, pos, List, [], ◌∷◌, ◌++◌, length, codes}
use Rattle.std.specs.Int.{bytes_high_first}
use Rattle.gh_base.specs.declared.map.OsmNode.{OsmNode}
use Rattle.gh_base.specs.declared.map.OsmWay.{OsmWay}
use Rattle.gh_base.specs.declared.map.OsmMap.{OsmMap}
use Rattle.pbf_file_laws.specs.Messages.{Value, Entry, message_text}
use Rattle.pbf_file_laws.specs.Files.{IsFile}

-- a field of bytes, and one of a number, each with a key of one byte
abbrev pub bytes_entry : ℕ → List ℕ → Entry
bytes_entry number content = record { number = number; key = (8 * number + 2) ∷ []; value = Value.Bytes (length content ∷ []) content }

abbrev pub number_entry : ℕ → List ℕ → Entry
number_entry number groups = record { number = number; key = (8 * number) ∷ []; value = Value.Varint groups }

-- ids 1 and 2, an unknown field of eight bytes, latitudes 0 and longitudes 0 and 100000, each the difference from the one before it
abbrev pub dense_entries : List Entry
dense_entries =
    bytes_entry 1 (2 ∷ 2 ∷ []) ∷ record { number = 7; key = 57 ∷ []; value = Value.Eight (1 ∷ 2 ∷ 3 ∷ 4 ∷ 5 ∷ 6 ∷ 7 ∷ 8 ∷ []) } ∷ bytes_entry 8 (0 ∷ 0 ∷ []) ∷ bytes_entry 9 (0 ∷ 192 ∷ 154 ∷ 12 ∷ []) ∷ []

-- way 10, in two bytes more than it takes, its references 1 and 2 one by itself and one packed
abbrev pub way_entries : List Entry
way_entries = number_entry 8 (2 ∷ []) ∷ number_entry 1 (10 ∷ 0 ∷ 0 ∷ []) ∷ bytes_entry 8 (2 ∷ []) ∷ []

abbrev pub nodes_group : List Entry
nodes_group = bytes_entry 2 (message_text dense_entries) ∷ []

abbrev pub ways_group : List Entry
ways_group = bytes_entry 3 (message_text way_entries) ∷ []

-- two groups, and an unknown field of four bytes
abbrev pub block_entries : List Entry
block_entries = bytes_entry 2 (message_text nodes_group) ∷ record { number = 5; key = 45 ∷ []; value = Value.Four (1 ∷ 2 ∷ 3 ∷ 4 ∷ []) } ∷ bytes_entry 2 (message_text ways_group) ∷ []

abbrev pub header_entries : List Entry
header_entries = bytes_entry 4 (codes "OsmSchema-V0.6") ∷ bytes_entry 4 (codes "DenseNodes") ∷ []

abbrev pub blob_of : List ℕ → List ℕ
blob_of content = message_text (bytes_entry 1 content ∷ [])

abbrev pub blob_header : List ℕ → List ℕ → List Entry
blob_header name content = bytes_entry 1 name ∷ number_entry 3 (length (blob_of content) ∷ []) ∷ []

abbrev pub blob_bytes : List ℕ → List ℕ → List ℕ
blob_bytes name content = bytes_high_first 4 (length (message_text (blob_header name content))) ++ (message_text (blob_header name content) ++ blob_of content)

abbrev pub example_file : List ℕ
example_file = blob_bytes (codes "OSMHeader") (message_text header_entries) ++ (blob_bytes (codes "OSMData") (message_text block_entries) ++ [])

abbrev pub node_at : ℤ → ℤ → ℤ → OsmNode
node_at id lat lon = record { id = id; place = record { lat = lat; lon = lon } }

abbrev pub example_nodes : List OsmNode
example_nodes = node_at (pos 1) (pos 0) (pos 0) ∷ node_at (pos 2) (pos 0) (pos 100000) ∷ []

abbrev pub example_way : OsmWay
example_way = record { id = pos 10; tags = []; refs = pos 1 ∷ pos 2 ∷ [] }

abbrev pub example_map : OsmMap
example_map = record { nodes = example_nodes; ways = example_way ∷ [] }

-- such a file is there
abbrev pub FilesThereAre : Type 0
FilesThereAre = IsFile example_file example_map
