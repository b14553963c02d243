use Rattle.std.proofs.Common.{◌≡◌, drop}
use Rattle.landmark_choice.specs.Farthest.{lesser}
use Rattle.landmark_prep.specs.Bounds.{bound_into, picked}
use Rattle.landmark_prep.proofs.preparation.Prep.bound_inside.Given as goal

-- the least so far, with what the rest gives
abbrev pub invariant-loop-arrival : goal.invariant-loop-arrival
invariant-loop-arrival l = bound_into (picked l.self.labels l.active) l.fn.arrivals l.node.0 ≡ lesser l.least (bound_into (picked l.self.labels l.active) (drop l.arrival-index l.fn.arrivals) l.node.0)
