use Rattle.std.proofs.Common.{◌≡◌, ◌<◌, ◌^◌, ℕ, length}
use Rattle.walk_rules.specs.Distances.{label_at}
use Rattle.alt_search.specs.Exploring.{weight_in}
use Rattle.label_spread.specs.Cutting.{cut}
use Rattle.label_spread.proofs.labels.cut_weights.Given as goal

-- the labels so far
abbrev pub invariant-loop-node : goal.invariant-loop-node
invariant-loop-node l = record {
  count : length l.labels ≡ l.node;
  each : (node : ℕ) → node < l.node → label_at l.labels node ≡ cut (2 ^ 62) (weight_in l.explored node);
}
