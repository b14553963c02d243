use Rattle.std.proofs.Common.{ℕ, ◌<◌}
use Rattle.gh_base.specs.declared.map.Point.{Point}
use Rattle.location_grid.specs.Boxes.{IsIn, MeetsEarth}
use Rattle.location_grid.specs.Snaps.{point_at}
use Rattle.location_grid.proofs.bounds.Bounds.with_line.Given as goal

abbrev pub invariant-points : goal.invariant-points
invariant-points l = MeetsEarth l.wider × ((j : ℕ) → j < l.k → IsIn l.wider (point_at l.line j)) × ((other : Point) → IsIn l.fn.self other → IsIn l.wider other)
