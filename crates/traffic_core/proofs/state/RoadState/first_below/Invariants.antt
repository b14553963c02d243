use Rattle.std.proofs.Common.{◌<◌, ◌≤◌}
use Rattle.gh_base.specs.declared.edges.DirEdge.{DirEdge}
use Rattle.traffic_core.specs.History.{index_of, limit_in}
use Rattle.traffic_core.proofs.state.RoadState.first_below.Given as goal

abbrev pub invariant-loop-place : goal.invariant-loop-place
invariant-loop-place l = (other : DirEdge) → index_of other < l.place → limit_in l.self.limits other ≤ limit_in l.snapshot other
