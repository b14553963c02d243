use Rattle.std.proofs.Common.{ℕ, ◌<◌, ◌≤◌}
use Rattle.location_grid.specs.Founds.{IsFound, IsSettled}
use Rattle.location_grid.specs.Grids.{edge_in}
use Rattle.location_grid.proofs.grid.Grid.nearer_from.Given as goal

abbrev pub invariant-places : goal.invariant-places
invariant-places g l = IsFound l.graph.lists l.point (g.U.EdgeSet.has_edge l.usable) l.best
    × ((place : ℕ) → l.first ≤ place → place < l.place → IsSettled l.graph.lists l.point (g.U.EdgeSet.has_edge l.usable) (edge_in l.self.order.items place) l.best)
    × ((edge : ℕ) → IsSettled l.graph.lists l.point (g.U.EdgeSet.has_edge l.usable) edge l.fn.found → IsSettled l.graph.lists l.point (g.U.EdgeSet.has_edge l.usable) edge l.best)
