use Rattle.std.proofs.Common.{ℕ, ◌<◌, ◌*◌, length}
use Rattle.location_grid.specs.Founds.{IsFound, IsSettled}
use Rattle.location_grid.specs.Grids.{edge_in}
use Rattle.location_grid.proofs.grid.Grid.found.Given as goal

abbrev pub invariant-cells : goal.invariant-cells
invariant-cells g l = IsFound l.graph.lists l.point (g.U.EdgeSet.has_edge l.usable) l.found
    × ((place : ℕ) → place < 32 * l.cell → place < length l.self.order.items → IsSettled l.graph.lists l.point (g.U.EdgeSet.has_edge l.usable) (edge_in l.self.order.items place) l.found)
