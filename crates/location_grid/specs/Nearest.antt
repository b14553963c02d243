-- The edge of a set that is nearest to a point, the least number on a tie.
use Rattle.std.specs.Prelude.{◌≡◌, ℕ, ◌≤◌, ◌<◌, Bool, true, length}
use Rattle.gh_base.specs.declared.map.Point.{Point}
use Rattle.geo_math.specs.declared.foot.Snap.{Snap}
use Rattle.base_graph.specs.Graphs.{Graph, points_of}
use Rattle.location_grid.specs.Snaps.{IsSnap, foot_at, segments}
use Rattle.location_grid.specs.declared.grid.OnEdge.{OnEdge}

-- the set has an edge of the graph
pub record Has (graph : Graph) (set : ℕ → Bool) (edge : ℕ) : Type 0 where
  pub there : edge < length graph.edges
  pub has : set edge ≡ true

-- no segment of an edge is nearer to p than a square, and where a number is greater than the edge's, none is as near
pub record IsNoNearer (graph : Graph) (p : Point) (edge dist2 number : ℕ) : Type 0 where
  pub least : (k : ℕ) → k < segments (points_of graph edge) → dist2 ≤ (foot_at p (points_of graph edge) k).dist2
  pub first : edge < number → (k : ℕ) → k < segments (points_of graph edge) → dist2 < (foot_at p (points_of graph edge) k).dist2

-- where p stands on the graph's edges of a set: at its snap on one of them, to which none of them is nearer, and none of a lesser number as near
pub record IsNearest (graph : Graph) (p : Point) (set : ℕ → Bool) (at : OnEdge) : Type 0 where
  pub has : Has graph set at.edge.0
  pub snap : Snap
  pub is_snap : IsSnap p (points_of graph at.edge.0) snap
  pub offset : at.offset_mm ≡ snap.place
  pub least : (edge : ℕ) → Has graph set edge → IsNoNearer graph p edge snap.dist2 at.edge.0
