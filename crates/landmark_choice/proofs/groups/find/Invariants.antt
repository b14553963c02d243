use Rattle.std.proofs.Common.{◌≡◌, ◌≤◌, ℕ}
use Rattle.landmark_choice.specs.Grouping.{IsForest, Leads}
use Rattle.landmark_choice.proofs.groups.find.Given as goal

-- still in the group, in which all have their leader
abbrev pub invariant-up : goal.invariant-up
invariant-up l = record {
  within : l.at ≤ l.fn.number;
  forest : IsForest l.above;
  leader : (leader : ℕ → ℕ) → Leads l.fn.above leader → leader l.at ≡ leader l.fn.number;
  same : (leader : ℕ → ℕ) → Leads l.fn.above leader → Leads l.above leader;
}

abbrev pub decreases-up : goal.decreases-up
decreases-up l = l.at
