-- A file of three blobs: the features that it needs, nodes 1 and 2, and way 10 between them.
use Rattle.std.specs.Prelude.{◌≡◌, ◌⊎◌, ℕ, List, [], ◌∷◌, ◌++◌, codes}

-- 47 bytes, which alone are the file of the empty map
abbrev pub features_blob : List ℕ
features_blob =
    (0 ∷ 0 ∷ 0 ∷ 13 ∷ 10 ∷ 9 ∷ []) ++ codes "OSMHeader" ++ (24 ∷ 30 ∷ 10 ∷ 28 ∷ 34 ∷ 14 ∷ []) ++ codes "OsmSchema-V0.6" ++ (34 ∷ 10 ∷ []) ++ codes "DenseNodes"

-- 39 bytes
abbrev pub nodes_blob : List ℕ
nodes_blob =
    (0 ∷ 0 ∷ 0 ∷ 11 ∷ 10 ∷ 7 ∷ []) ++ codes "OSMData" ++
    (24 ∷ 24 ∷ 10 ∷ 22 ∷ 10 ∷ 2 ∷ 10 ∷ 0 ∷ 18 ∷ 16 ∷ 18 ∷ 14 ∷ 10 ∷ 2 ∷ 2 ∷ 2 ∷ 66 ∷ 2 ∷ 0 ∷ 0 ∷ 74 ∷ 4 ∷ 0 ∷ 192 ∷ 154 ∷ 12 ∷ [])

-- 57 bytes
abbrev pub way_blob : List ℕ
way_blob =
    (0 ∷ 0 ∷ 0 ∷ 11 ∷ 10 ∷ 7 ∷ []) ++ codes "OSMData" ++ (24 ∷ 42 ∷ 10 ∷ 40 ∷ 10 ∷ 22 ∷ 10 ∷ 0 ∷ 10 ∷ 7 ∷ []) ++ codes "highway" ++ (10 ∷ 9 ∷ []) ++ codes "secondary" ++
    (18 ∷ 14 ∷ 26 ∷ 12 ∷ 8 ∷ 10 ∷ 18 ∷ 1 ∷ 1 ∷ 26 ∷ 1 ∷ 2 ∷ 66 ∷ 2 ∷ 2 ∷ 2 ∷ [])

unfoldable pub three_blobs : List ℕ
three_blobs = features_blob ++ nodes_blob ++ way_blob

-- where its blobs end
abbrev pub IsOneOfThreeEnds : ℕ → Type 0
IsOneOfThreeEnds n = (n ≡ 47) ⊎ ((n ≡ 86) ⊎ (n ≡ 143))
