use Rattle.std.proofs.Common.{◌≡◌, ◌<◌, ◌≤◌, ℕ, Some, None, IfSome, IfNone}
use Rattle.landmark_choice.specs.Farthest.{distance_at}
use Rattle.landmark_choice.proofs.farthest.greatest.Given as goal

-- the greatest so far
abbrev pub invariant-loop-i : goal.invariant-loop-i
invariant-loop-i l = record {
  none : IfNone l.best ((node : ℕ) → node < l.i → distance_at l.distances node ≡ None);
  found : IfSome l.best (λ f. (distance_at l.distances f.0.0 ≡ Some f.1) × (f.0.0 < l.i)
      × ((node d : ℕ) → node < l.i → distance_at l.distances node ≡ Some d → d ≤ f.1)
      × ((node d : ℕ) → node < f.0.0 → distance_at l.distances node ≡ Some d → d < f.1));
}
