use Rattle.std.proofs.Common.{◌≡◌, ◌<◌, ◌≤◌, ℕ}
use Rattle.landmark_choice.specs.Farthest.{distance_at, lesser}
use Rattle.landmark_choice.proofs.farthest.take_nearer.Given as goal

-- those done, and those that are left
abbrev pub invariant-loop-i : goal.invariant-loop-i
invariant-loop-i l = record {
  done : (node : ℕ) → node < l.i → distance_at l.near node ≡ lesser (distance_at l.fn.near node) (distance_at l.own node);
  rest : (node : ℕ) → l.i ≤ node → distance_at l.near node ≡ distance_at l.fn.near node;
}
