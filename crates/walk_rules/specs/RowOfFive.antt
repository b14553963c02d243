-- Five nodes in a row: the network that shows what the words mean in numbers.
--
--     0 --- 1 --- 2 --- 3 --- 4      each edge 66717 ms in both directions
use Rattle.std.specs.Prelude.{ℕ, Bool, true, false, Some, List, [], ◌∷◌, slice_index_or}
use Rattle.gh_base.specs.declared.edges.Hop.{Hop}
use Rattle.gh_base.specs.Networks.{Network}

-- a hop over an edge of the row
abbrev pub hop_by : ℕ → Bool → ℕ → Hop
hop_by edge reverse to = record { to = record { 0 = to }; by = record { edge = record { 0 = edge }; reverse = reverse }; weight = Some 66717 }

-- each node's hops: forward over the edge of its number, and back over the one before
abbrev pub rows_of_five : List (List Hop)
rows_of_five =
    (hop_by 0 false 1 ∷ []) ∷
    (hop_by 1 false 2 ∷ hop_by 0 true 0 ∷ []) ∷
    (hop_by 2 false 3 ∷ hop_by 1 true 1 ∷ []) ∷
    (hop_by 3 false 4 ∷ hop_by 2 true 2 ∷ []) ∷
    (hop_by 3 true 3 ∷ []) ∷ []

abbrev pub row_of_five : Network
row_of_five = record { nodes = 5; hops = λ node. slice_index_or rows_of_five node [] }
