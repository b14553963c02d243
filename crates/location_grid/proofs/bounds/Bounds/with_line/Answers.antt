use Rattle.std.proofs.Common.{ℕ, pos, arith, below_more}
use Rattle.std.proofs.lemmas.List.{get_or_default}
use Rattle.location_grid.specs.Boxes.{IsIn}
use Rattle.location_grid.specs.Snaps.{point_at}
use Rattle.location_grid.proofs.bounds.Bounds.with_line.Goals as goal

pub points-preserved : goal.points-preserved
points-preserved c =
    let kept = c.with_point-wider.ensures.kept in
    let here = rw c.point_of.ensures.value at c.with_point-wider.ensures.point in (
      c.with_point-wider.ensures.earth,
      below_more (λ (j : ℕ). IsIn c.with_point-wider.result (point_at c.args.line.now j)) _ (λ j h. kept _ (c.points.invariant.1 j h)) here,
      λ other h. kept other (c.points.invariant.2 other h),
    )

pub returns-clause-line : goal.returns-clause-line
returns-clause-line c = λ k d h.
    let here : IsIn c.points.wider (point_at c.args.line.now k) = c.points.invariant.1 k (omega arith) in
    rw (get_or_default c.args.line.now k d (record { lat = pos 0; lon = pos 0 }) h) here
