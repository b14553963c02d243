-- Roads that are kept as a list of hops for each node.
use Rattle.std.specs.Prelude.{ℕ, List, [], length, slice_index_or, drop}
use Rattle.gh_base.specs.declared.edges.Hop.{Hop}
use Rattle.gh_base.specs.Networks.{Network}

abbrev pub network_in : List (List Hop) → Network
network_in rows = record { nodes = length rows; hops = λ node. slice_index_or rows node [] }

-- the hops of a node from a place on
abbrev pub left_in : List (List Hop) → ℕ → ℕ → List Hop
left_in rows node next = drop next (slice_index_or rows node [])
