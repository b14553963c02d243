-- Files and their maps (OSM wiki, "PBF Format"; Protocol Buffers, "Encoding").
use Rattle.std.specs.Prelude.{◌≡◌, ℕ, ℤ, pos, negsuc, List, [], ◌∷◌, ◌++◌, Ok, map, codes}
use Rattle.gh_base.specs.declared.map.OsmTag.{OsmTag}
use Rattle.gh_base.specs.declared.map.OsmNode.{OsmNode}
use Rattle.gh_base.specs.declared.map.OsmWay.{OsmWay}
use Rattle.gh_base.specs.declared.map.OsmMap.{OsmMap}
use Rattle.pbf_wire.specs.Files.{reads}
use Rattle.pbf_laws.specs.Building.{bytes, number, entry, raw, features, file}

abbrev pub node : ℤ → ℤ → ℤ → OsmNode
node id lat lon = record { id = id; place = record { lat = lat; lon = lon } }

abbrev pub tag : List ℕ → List ℕ → OsmTag
tag key value = record { key = key; value = value }

abbrev pub way : ℤ → List OsmTag → List ℤ → OsmWay
way id tags refs = record { id = id; tags = tags; refs = refs }

abbrev pub map_of : List OsmNode → List OsmWay → OsmMap
map_of nodes ways = record { nodes = nodes; ways = ways }

-- nodes 1 and 2, at 0 and 0 and at 0 and 0.01 degree
abbrev pub two : OsmMap
two = map_of (node (pos 1) (pos 0) (pos 0) ∷ node (pos 2) (pos 0) (pos 100000) ∷ []) []

-- their ids and latitudes, each as the difference from the one before, and longitudes of 1e-7 degree
abbrev pub two_dense : List ℕ
two_dense = bytes 1 (2 ∷ 2 ∷ []) ++ (bytes 8 (0 ∷ 0 ∷ []) ++ bytes 9 (0 ∷ 192 ∷ 154 ∷ 12 ∷ []))

-- dense nodes in a block
abbrev pub dense_in_block : List ℕ
dense_in_block = bytes 2 (bytes 2 two_dense)

-- longitudes -1000 and 9000, which at granularity 1000 and with the offset 1000000 are 0 and 0.01 degree
abbrev pub coarse : List ℕ
coarse = bytes 2 (bytes 2 (bytes 1 (2 ∷ 2 ∷ []) ++ (bytes 8 (0 ∷ 0 ∷ []) ++ bytes 9 (207 ∷ 15 ∷ 160 ∷ 156 ∷ 1 ∷ []))))

abbrev pub one_way : OsmWay
one_way = way (pos 10) (tag (codes "highway") (codes "secondary") ∷ []) (pos 1 ∷ pos 2 ∷ [])

abbrev pub table : List ℕ
table = bytes 1 (bytes 1 [] ++ (bytes 1 (codes "highway") ++ bytes 1 (codes "secondary")))

abbrev pub samples : List (List ℕ × OsmMap)
samples =
    (features, map_of [] []) ∷
    (file [], map_of [] []) ∷
    -- dense nodes
    (file dense_in_block, two) ∷
    -- granularity=17 and lon_offset=20
    (file ((136 ∷ 1 ∷ 232 ∷ 7 ∷ []) ++ ((160 ∷ 1 ∷ 192 ∷ 132 ∷ 61 ∷ []) ++ coarse)), two) ∷
    -- and behind the nodes, granularity twice: the last counts
    (file (coarse ++ ((160 ∷ 1 ∷ 192 ∷ 132 ∷ 61 ∷ []) ++ (136 ∷ 1 ∷ 9 ∷ 136 ∷ 1 ∷ 232 ∷ 7 ∷ []))), two) ∷
    -- lat_offset=19 is 700, lon_offset=20 is 50: latitude 3700, longitude -950 of 1e-9 degree
    (file ((136 ∷ 1 ∷ 232 ∷ 7 ∷ 152 ∷ 1 ∷ 188 ∷ 5 ∷ 160 ∷ 1 ∷ 50 ∷ []) ++ bytes 2 (bytes 1 (number 1 (1 ∷ []) ++ (number 8 (6 ∷ []) ++ number 9 (1 ∷ []))))), map_of (node (negsuc 0) (pos 37) (negsuc 9) ∷ []) []) ∷
    -- plain nodes, their fields in any order with unknown ones between, a varint longer than it need be
    (file (bytes 2 (bytes 1 (number 9 (0 ∷ []) ++ (bytes 7 (1 ∷ 2 ∷ []) ++ (number 8 (0 ∷ []) ++ number 1 (130 ∷ 128 ∷ 0 ∷ [])))) ++ bytes 1 (number 1 (4 ∷ []) ++ (number 2 (9 ∷ []) ++ (number 8 (0 ∷ []) ++ number 9 (192 ∷ 154 ∷ 12 ∷ [])))))), two) ∷
    -- ids in one field, coordinates in another of the same dense nodes
    (file (bytes 2 (bytes 2 (bytes 1 (2 ∷ 2 ∷ [])) ++ bytes 2 (bytes 8 (0 ∷ 0 ∷ []) ++ bytes 9 (0 ∷ 192 ∷ 154 ∷ 12 ∷ [])))), two) ∷
    -- of one group, plain nodes come before dense ones
    (file (bytes 2 (bytes 2 (bytes 1 (4 ∷ []) ++ (bytes 8 (0 ∷ []) ++ (bytes 9 (192 ∷ 154 ∷ 12 ∷ []) ++ bytes 10 (0 ∷ [])))) ++ bytes 1 (number 1 (2 ∷ []) ++ (number 8 (0 ∷ []) ++ number 9 (0 ∷ []))))), two) ∷
    -- a way, its references packed, one by one, and in two pieces
    (file (table ++ bytes 2 (bytes 3 (number 1 (10 ∷ []) ++ (bytes 2 (1 ∷ []) ++ (bytes 3 (2 ∷ []) ++ bytes 8 (2 ∷ 2 ∷ [])))))), map_of [] (one_way ∷ [])) ∷
    (file (bytes 2 (bytes 3 (number 8 (2 ∷ []) ++ (number 1 (10 ∷ []) ++ (number 2 (1 ∷ []) ++ (number 3 (2 ∷ []) ++ number 8 (2 ∷ [])))))) ++ table), map_of [] (one_way ∷ [])) ∷
    (file (table ++ bytes 2 (bytes 3 (number 1 (10 ∷ []) ++ (bytes 8 (2 ∷ []) ++ (bytes 2 (1 ∷ []) ++ (bytes 3 (2 ∷ []) ++ bytes 8 (2 ∷ []))))))), map_of [] (one_way ∷ [])) ∷
    -- a blob of another type is passed over
    (features ++ (raw (codes "Other") (1 ∷ 2 ∷ 3 ∷ []) ++ raw (codes "OSMData") dense_in_block), two) ∷ []

abbrev pub FilesAreSo : Type 0
FilesAreSo = map (λ (s : List ℕ × OsmMap). reads s.0) samples ≡ map (λ (s : List ℕ × OsmMap). Ok s.1) samples
