-- What a search knows: the best that it found, and the edges to which that is settled.
use Rattle.std.specs.Prelude.{◌≡◌, ℕ, ◌≤◌, ◌<◌, Bool, Option, Some, None, ◌⊎◌}
use Rattle.gh_base.specs.declared.map.Point.{Point}
use Rattle.base_graph.specs.Graphs.{Graph, edge_at, points_of}
use Rattle.location_grid.specs.Snaps.{IsSnap}
use Rattle.location_grid.specs.Nearest.{Has, IsNoNearer}
use Rattle.location_grid.specs.declared.found.Found.{Found}

-- an edge of the set, and its snap
pub record IsFoundAt (graph : Graph) (p : Point) (set : ℕ → Bool) (found : Found) : Type 0 where
  pub has : Has graph set found.edge.0
  pub snap : IsSnap p (points_of graph found.edge.0) found.snap
  pub within : found.snap.place ≤ (edge_at graph.edges found.edge.0).mm

-- nearer, or as near and of a lesser number
abbrev pub IsLess : Found → Found → Type 0
IsLess a b = (a.snap.dist2 < b.snap.dist2) ⊎ (a.snap.dist2 ≡ b.snap.dist2) × (a.edge.0 < b.edge.0)

-- what was found, if there is any, is that
abbrev pub IsFound : Graph → Point → (ℕ → Bool) → Option Found → Type 0
IsFound graph p set None = Unit {0}
IsFound graph p set (Some found) = IsFoundAt graph p set found

-- what was found is no farther than an edge
abbrev pub IsBefore : Graph → Point → ℕ → Option Found → Type 0
IsBefore graph p edge None = ⊥
IsBefore graph p edge (Some found) = IsNoNearer graph p edge found.snap.dist2 found.edge.0

-- an edge needs no look any more: if the set has it, what was found is no farther
abbrev pub IsSettled : Graph → Point → (ℕ → Bool) → ℕ → Option Found → Type 0
IsSettled graph p set edge found = Has graph set edge → IsBefore graph p edge found
