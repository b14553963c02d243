use Rattle.std.proofs.Common.{arith, refl, ◌+◌, ◌≤◌, ◌<◌, length}
use Rattle.geo_math.specs.Lengths.{segment_length}
use Rattle.location_grid.proofs.Lines.{walked_one, walked_takes, walked_keeps, walked_bounds}
use Rattle.location_grid.proofs.snaps.snap_on.Goals as goal
use Rattle.location_grid.proofs.snaps.snap_on.Goals.{then-foot-best, else-foot-best}

pub segments-init : goal.segments-init
segments-init c =
    let two : 2 ≤ length c.args.line.now = omega arith in
    walked_one _ _ _ _ _ _ two c.point_of-first.ensures.value c.point_of-from.ensures.value c.point_of-from.ensures.on_earth c.project-best.ensures.value c.project-best.ensures.within c.segment_mm-before.ensures.value

pub overflow_add-best : goal.overflow_add-best
overflow_add-best c =
    let w = c.segments.invariant in
    let there : c.segments.k + 1 < length c.args.line.now = omega arith in
    let bound = walked_bounds c.args.line.now c.segments.k c.segments.before (segment_length c.segments.from c.point_of-to.result) c.segments.from c.point_of-to.result w.before w.from there c.point_of-to.ensures.value refl in
    omega arith

pub overflow_add-before : goal.overflow_add-before
overflow_add-before c =
    let w = c.segments.invariant in
    let there : c.segments.k + 1 < length c.args.line.now = omega arith in
    let bound = walked_bounds c.args.line.now c.segments.k c.segments.before c.segment_mm-before-in-segments.result c.segments.from c.point_of-to.result w.before w.from there c.point_of-to.ensures.value c.segment_mm-before-in-segments.ensures.value in
    omega arith

pub segments-preserved : goal.segments-preserved
segments-preserved c =
    let there : c.segments.k + 1 < length c.args.line.now = omega arith in
    elim c.if-foot-best.branch [
      | then-foot-best w ↦ rw w.best-is (walked_takes _ _ _ _ _ _ _ _ _ c.segments.invariant there c.point_of-to.ensures.value c.point_of-to.ensures.on_earth c.project-foot.ensures.value c.project-foot.ensures.within c.segment_mm-before-in-segments.ensures.value w.if-foot-best.true)
      | else-foot-best w ↦ rw w.best-is (walked_keeps _ _ _ _ _ _ _ _ _ c.segments.invariant there c.point_of-to.ensures.value c.point_of-to.ensures.on_earth c.project-foot.ensures.value c.segment_mm-before-in-segments.ensures.value w.if-foot-best.false)
    ]
