use Rattle.std.proofs.Common.{◌≡◌, ◌<◌, ℕ, None, length}
use Rattle.landmark_choice.specs.Farthest.{distance_at}
use Rattle.landmark_choice.proofs.farthest.forget.Given as goal

-- none so far
abbrev pub invariant-loop-i : goal.invariant-loop-i
invariant-loop-i l = record {
  long : length l.distances.items ≡ length l.fn.distances.items;
  none : (node : ℕ) → node < l.i → distance_at l.distances.items node ≡ None;
}
