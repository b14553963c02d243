use Rattle.std.proofs.Common.{ℕ, ◌<◌, ◌≤◌, All}
use Rattle.base_graph.specs.Graphs.{points_of}
use Rattle.location_grid.specs.Boxes.{IsIn, MeetsEarth}
use Rattle.location_grid.specs.Grids.{edge_in}
use Rattle.location_grid.proofs.cells.box_round.Given as goal

abbrev pub invariant-places : goal.invariant-places
invariant-places l = MeetsEarth l.bounds × ((place : ℕ) → l.first ≤ place → place < l.place → All (IsIn l.bounds) (points_of l.graph.lists (edge_in l.order place)))
