use Rattle.std.proofs.Common.{ℕ, ◌<◌, ◌≡◌, ◌*◌, ◌/◌, length, All}
use Rattle.base_graph.specs.Graphs.{points_of}
use Rattle.location_grid.specs.Boxes.{IsIn, MeetsEarth}
use Rattle.location_grid.specs.Grids.{box_at, edge_in}
use Rattle.location_grid.proofs.cells.boxes_of.Given as goal

abbrev pub invariant-cells : goal.invariant-cells
invariant-cells l = (length l.boxes.items ≡ l.cell) × All MeetsEarth l.boxes.items
    × ((place : ℕ) → place < 32 * l.cell → place < length l.order → All (IsIn (box_at l.boxes.items (place / 32))) (points_of l.graph.lists (edge_in l.order place)))
