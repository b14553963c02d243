-- A map as a PBF file with blobs that are not compressed (OSM wiki, "PBF Format").
use Rattle.std.specs.Prelude.{◌≡◌, ℕ, ◌+◌, zero, suc, pos, Bool, true, not, ◌||◌, List, [], ◌∷◌, ◌++◌, length, take, drop, map, filter, All, codes, nat_lt, nat_le, ◌==◌, if◌then◌else◌}
use Rattle.std.specs.List.{position_or_len}
use Rattle.std.specs.Str.{bytes_eq}
use Rattle.std.specs.Int.{cast_unsigned, w64, bytes_high_first}
use Rattle.gh_base.specs.declared.map.OsmTag.{OsmTag}
use Rattle.gh_base.specs.declared.map.OsmNode.{OsmNode}
use Rattle.gh_base.specs.declared.map.OsmWay.{OsmWay}
use Rattle.gh_base.specs.declared.map.OsmMap.{OsmMap}
use Rattle.gh_base.specs.Maps.{IsFileNode, IsTextWay}
use Rattle.pbf_wire.specs.Parts.{Part, message_text, deltas}

-- these words, each once, in the order in which they come first
abbrev pub firsts : List (List ℕ) → List (List ℕ)
firsts [] = []
firsts (word ∷ words) = word ∷ filter (λ w. not (bytes_eq word w)) (firsts words)

-- the keys and values of tags, each key before its value
abbrev pub words_of : List OsmTag → List (List ℕ)
words_of [] = []
words_of (tag ∷ tags) = tag.key ∷ tag.value ∷ words_of tags

abbrev pub all_words : List OsmWay → List (List ℕ)
all_words [] = []
all_words (way ∷ ways) = words_of way.tags ++ all_words ways

-- the strings of a block of ways: the empty one, and then each other that is used
unfoldable pub table_of : List OsmWay → List (List ℕ)
table_of ways = firsts ([] ∷ all_words ways)

-- where a string stands in a table
abbrev pub index_of : List (List ℕ) → List ℕ → ℕ
index_of table word = position_or_len (bytes_eq word) table

-- the fields of a Way
abbrev pub way_parts : List (List ℕ) → OsmWay → List Part
way_parts table way =
    Part.Number 1 (cast_unsigned w64 way.id) ∷ Part.Packed 2 (map (λ tag. index_of table tag.key) way.tags) ∷ Part.Packed 3 (map (λ tag. index_of table tag.value) way.tags) ∷ Part.Packed 8 (deltas (pos 0) way.refs) ∷ []

unfoldable pub way_text : List (List ℕ) → OsmWay → List ℕ
way_text table way = message_text (way_parts table way)

-- the fields of DenseNodes
abbrev pub dense_parts : List OsmNode → List Part
dense_parts nodes =
    Part.Packed 1 (deltas (pos 0) (map (λ node. node.id) nodes)) ∷ Part.Packed 8 (deltas (pos 0) (map (λ node. node.place.lat) nodes)) ∷ Part.Packed 9 (deltas (pos 0) (map (λ node. node.place.lon) nodes)) ∷ []

-- a StringTable
abbrev pub strings_text : List (List ℕ) → List ℕ
strings_text table = message_text (map (λ word. Part.Bytes 1 word) table)

-- a PrimitiveBlock: its StringTable and its one PrimitiveGroup
unfoldable pub block_text : List (List ℕ) → List Part → List ℕ
block_text table group = message_text (Part.Bytes 1 (strings_text table) ∷ Part.Bytes 2 (message_text group) ∷ [])

unfoldable pub nodes_block : List OsmNode → List ℕ
nodes_block nodes = block_text ([] ∷ []) (Part.Bytes 2 (message_text (dense_parts nodes)) ∷ [])

unfoldable pub ways_block : List OsmWay → List ℕ
ways_block ways = block_text (table_of ways) (map (λ way. Part.Bytes 3 (way_text (table_of ways) way)) ways)

-- a block of the first n ways ends there: it has 8000, no way is left, or with one more it passes 16 MiB
abbrev pub is_end : List OsmWay → ℕ → Bool
is_end ways n = n == 8000 || nat_le (length ways) n || nat_lt 16777216 (length (ways_block (take (n + 1) ways)))

-- the first end from n on, if it is among so many
abbrev pub end_from : ℕ → List OsmWay → ℕ → ℕ
end_from zero ways n = n
end_from (suc most) ways n = if is_end ways n then n else end_from most ways (n + 1)

-- how many of these ways the first block has: it ends at the first end, and has at least one
unfoldable pub ways_count : List OsmWay → ℕ
ways_count ways = end_from (length ways) ways 1

-- the parts of a list in order, each as long as `count` says of what is left
abbrev pub cut : {X : Type 0} → (List X → ℕ) → ℕ → List X → List (List X)
cut count zero xs = []
cut count (suc most) [] = []
cut count (suc most) (x ∷ xs) = take (count (x ∷ xs)) (x ∷ xs) ∷ cut count most (drop (count (x ∷ xs)) (x ∷ xs))

abbrev pub nodes_parts : List OsmNode → List (List OsmNode)
nodes_parts nodes = cut (λ left. 8000) (length nodes) nodes

abbrev pub ways_parts : List OsmWay → List (List OsmWay)
ways_parts ways = cut ways_count (length ways) ways

-- the Blob that holds these bytes as they are
abbrev pub blob_text : List ℕ → List ℕ
blob_text content = message_text (Part.Bytes 1 content ∷ [])

-- the BlobHeader of a type before a Blob of this length
abbrev pub header_text : List ℕ → ℕ → List ℕ
header_text name size = message_text (Part.Bytes 1 name ∷ Part.Number 3 size ∷ [])

-- the BlobHeader's length, its greatest byte first, the BlobHeader, and the Blob
unfoldable pub entry_text : List ℕ → List ℕ → List ℕ
entry_text name content =
    let header = header_text name (length (blob_text content)) in
    bytes_high_first 4 (length header) ++ (header ++ blob_text content)

-- a HeaderBlock: the features that a reader needs
abbrev pub features_text : List ℕ
features_text = message_text (Part.Bytes 4 (codes "OsmSchema-V0.6") ∷ Part.Bytes 4 (codes "DenseNodes") ∷ [])

-- blocks, each in a blob
abbrev pub blocks_text : List (List ℕ) → List ℕ
blocks_text [] = []
blocks_text (block ∷ blocks) = entry_text (codes "OSMData") block ++ blocks_text blocks

-- the file: the header, the nodes, and then the ways
unfoldable pub pbf_text : OsmMap → List ℕ
pbf_text m = entry_text (codes "OSMHeader") features_text ++ (blocks_text (map nodes_block (nodes_parts m.nodes)) ++ blocks_text (map ways_block (ways_parts m.ways)))

-- the block of this way alone has at most 32 MiB
abbrev pub fits : OsmWay → Bool
fits way = nat_le (length (ways_block (way ∷ []))) 33554432

-- a way that its file can say, in a block of its own
pub record IsWritableWay (way : OsmWay) : Type 0 where
  pub text : IsTextWay way
  pub fits : fits way ≡ true

-- a map that its file can say
pub record IsWritable (m : OsmMap) : Type 0 where
  pub nodes : All IsFileNode m.nodes
  pub ways : All IsWritableWay m.ways
