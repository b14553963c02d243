-- Spots on the roads (GraphHopper's snapped points): a tower, or a point inside an edge.
use Rattle.std.specs.Prelude.{ℕ, ◌<◌, ◌==◌, if◌then◌else◌, length}
use Rattle.gh_base.specs.declared.edges.EdgeId.{EdgeId}
use Rattle.base_graph.specs.Graphs.{Graph, Edge, edge_at}
use Rattle.traffic_core.specs.declared.spot.Spot.{Spot}
use Rattle.traffic_core.specs.declared.spot.Spot.TheVariants.{Tower, Inside}

-- one of the towers, or strictly inside one of the edges
abbrev pub IsOn : Graph → Spot → Type 0
IsOn graph (Tower node) = node.0 < length graph.places
IsOn graph (Inside edge mm) = (edge.0 < length graph.edges) × (0 < mm) × (mm < (edge_at graph.edges edge.0).mm)

-- so many mm from the base of an edge: its base where that is nothing, its adjacent tower where that is its length, and else inside it
abbrev pub spot_in : EdgeId → Edge → ℕ → Spot
spot_in id edge mm = if mm == 0 then Tower edge.base else if mm == edge.mm then Tower edge.adjacent else Inside id mm

abbrev pub spot_along : Graph → EdgeId → ℕ → Spot
spot_along graph id mm = spot_in id (edge_at graph.edges id.0) mm
