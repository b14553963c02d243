use Rattle.landmark_prep.specs.Bounds.{bound_of, labels_at}
use Rattle.landmark_prep.specs.Choosing.{IsBestSoFar}
use Rattle.landmark_prep.proofs.preparation.Prep.foremost.Given as goal

-- the foremost of the places so far
abbrev pub invariant-loop-place : goal.invariant-loop-place
invariant-loop-place l = IsBestSoFar (λ place. bound_of (labels_at l.self.labels place) l.from.0 l.to.0) l.active l.place l.best
