use Rattle.location_grid.proofs.Lines.{Walked}
use Rattle.location_grid.proofs.snaps.snap_on.Given as goal

abbrev pub invariant-segments : goal.invariant-segments
invariant-segments l = Walked l.point l.line l.k l.before l.from l.best
