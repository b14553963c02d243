use Rattle.std.proofs.Common.{ℕ, ◌<◌, ◌≡◌, true, All}
use Rattle.location_grid.specs.Grids.{IsEdgeOf, holds}
use Rattle.location_grid.proofs.order.in_rows.Given as goal

abbrev pub invariant-edges : goal.invariant-edges
invariant-edges l = All (IsEdgeOf l.graph.lists) l.order.items × ((edge : ℕ) → edge < l.number → holds l.order.items edge ≡ true)
