use Rattle.std.proofs.Common.{◌≡◌, ◌*◌, Some, drop}
use Rattle.landmark_prep.specs.Bounds.{greater, bound_by, picked}
use Rattle.landmark_prep.proofs.preparation.Prep.greatest_bound.Given as goal

-- what is so far, with what the rest says
abbrev pub invariant-loop-place : goal.invariant-loop-place
invariant-loop-place l = bound_by (picked l.self.labels l.active) l.node.0 l.target.0 ≡ greater (Some (l.self.grain * l.most)) (bound_by (picked l.self.labels (drop l.place-index l.active)) l.node.0 l.target.0)
