-- The words of values, each kind in order: a word is stored as its place, counted from 0.
use Rattle.std.specs.Prelude.{ℕ, List, [], ◌∷◌, Option, position, bytes_eq, codes}

-- classes of roads
abbrev pub road_classes : List (List ℕ)
road_classes =
    codes "OTHER" ∷ codes "MOTORWAY" ∷ codes "TRUNK" ∷ codes "PRIMARY" ∷ codes "SECONDARY" ∷
    codes "TERTIARY" ∷ codes "UNCLASSIFIED" ∷ codes "RESIDENTIAL" ∷ codes "LIVING_STREET" ∷ codes "SERVICE" ∷
    codes "TRACK" ∷ codes "PATH" ∷ codes "FOOTWAY" ∷ codes "CYCLEWAY" ∷ codes "PEDESTRIAN" ∷ codes "STEPS" ∷
    []

-- surfaces
abbrev pub surfaces : List (List ℕ)
surfaces =
    codes "MISSING" ∷ codes "PAVED" ∷ codes "ASPHALT" ∷ codes "CONCRETE" ∷ codes "PAVING_STONES" ∷
    codes "COBBLESTONE" ∷ codes "UNPAVED" ∷ codes "COMPACTED" ∷ codes "GRAVEL" ∷ codes "GROUND" ∷
    codes "DIRT" ∷ codes "GRASS" ∷ codes "SAND" ∷ codes "OTHER" ∷ []

-- tolls
abbrev pub tolls : List (List ℕ)
tolls = codes "MISSING" ∷ codes "ALL" ∷ codes "NO" ∷ []

-- the place of a word
abbrev pub place_in : List (List ℕ) → List ℕ → Option ℕ
place_in words word = position (bytes_eq word) words
