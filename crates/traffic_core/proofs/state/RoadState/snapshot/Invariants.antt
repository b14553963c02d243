use Rattle.std.proofs.Common.{◌≡◌, take}
use Rattle.traffic_core.proofs.state.RoadState.snapshot.Given as goal

abbrev pub invariant-loop-place : goal.invariant-loop-place
invariant-loop-place l = l.snapshot.items ≡ take l.place l.self.limits
