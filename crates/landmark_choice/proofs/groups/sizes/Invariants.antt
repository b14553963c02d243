use Rattle.std.proofs.Common.{◌≡◌, ◌≤◌, ℕ, length, slice_index}
use Rattle.landmark_choice.specs.Grouping.{IsForest, Leads, AreSizes}
use Rattle.landmark_choice.proofs.groups.sizes.Given as goal

-- the members up to here are counted
abbrev pub invariant-loop-number : goal.invariant-loop-number
invariant-loop-number l = record {
  forest : IsForest l.above;
  long : length l.sizes.items ≡ length l.above;
  small : (one : ℕ) → slice_index l.sizes.items one ≤ l.number;
  same : (leader : ℕ → ℕ) → Leads l.fn.above leader → Leads l.above leader;
  each : (leader : ℕ → ℕ) → Leads l.fn.above leader → AreSizes leader l.number l.sizes.items;
}
