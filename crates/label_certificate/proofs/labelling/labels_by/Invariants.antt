use Rattle.std.proofs.Common.{◌≡◌, ◌<◌, ℕ, Some, length}
use Rattle.walk_rules.specs.Distances.{label_at}
use Rattle.alt_search.specs.Exploring.{weight_in}
use Rattle.walk_rules.specs.Evidence.{label_by}
use Rattle.label_certificate.proofs.labelling.labels_by.Given as goal

-- the labels so far
abbrev pub invariant-loop-node : goal.invariant-loop-node
invariant-loop-node g l = record {
  count : length l.labels ≡ l.node;
  each : (node : ℕ) → node < l.node → label_at l.labels node ≡ Some (label_by (g.P.Potential.bound l.potential node) (weight_in l.explored node) l.weight);
}
