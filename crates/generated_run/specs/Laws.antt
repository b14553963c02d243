-- Laws of sizes, each a statement of its own.
use Rattle.std.specs.Prelude.{◌≡◌, ◌≤◌, ◌*◌, ◌-◌, ℕ, length}
use Rattle.traffic_core.specs.Lands.{Land}
use Rattle.generated_run.specs.Generating.{AreRoadsOfSize}

-- two grounds are the same roads: towers and edges
pub record AreSameRoads (one other : Land) : Type 0 where
  pub ids : one.ids ≡ other.ids
  pub edges : one.graph.edges ≡ other.graph.edges
  pub places : one.graph.places ≡ other.graph.places

-- a size has one ground
abbrev pub OneGround : Type 0
OneGround = (size : ℕ) (one other : Land) → AreRoadsOfSize size one → AreRoadsOfSize size other → AreSameRoads one other

-- with an edge for each pair of neighbours in a row or in a column
abbrev pub EdgesOfSize : Type 0
EdgesOfSize = (size : ℕ) (land : Land) → 2 ≤ size → size ≤ 300 → AreRoadsOfSize size land → length land.graph.edges ≡ 2 * size * (size - 1)
