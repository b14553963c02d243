use Rattle.std.proofs.Common.{◌≡◌, ◌<◌, ℕ, length}
use Rattle.alt_search.specs.Exploring.{weight_in}
use Rattle.landmark_choice.specs.Farthest.{distance_at}
use Rattle.landmark_choice.proofs.farthest.weights.Given as goal

-- the weights so far
abbrev pub invariant-loop-node : goal.invariant-loop-node
invariant-loop-node l = record {
  count : length l.list.items ≡ l.node;
  each : (node : ℕ) → node < l.node → distance_at l.list.items node ≡ weight_in l.explored node;
}
