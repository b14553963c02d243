use Rattle.std.proofs.Common.{◌-◌, ◌≤◌, length}
use Rattle.landmark_prep.specs.Bounds.{bound_of, labels_at}
use Rattle.landmark_prep.specs.Choosing.{AreForemost}
use Rattle.landmark_prep.proofs.preparation.Prep.pick_active.Given as goal

-- those picked come before all others
abbrev pub invariant-picks : goal.invariant-picks
invariant-picks l = record {
  foremost : AreForemost (λ place. bound_of (labels_at l.self.labels place) l.from.0 l.to.0) (length l.self.landmarks) l.active;
  few : length l.active ≤ l.most;
}

abbrev pub decreases-picks : goal.decreases-picks
decreases-picks l = l.most - length l.active
