use Rattle.std.proofs.Common.{◌≡◌, ◌<◌, ℕ, length, slice_index}
use Rattle.landmark_choice.proofs.groups.apart.Given as goal

-- the numbers up to here
abbrev pub invariant-loop-one : goal.invariant-loop-one
invariant-loop-one l = record {
  long : length l.above.items ≡ l.one;
  each : (i : ℕ) → i < l.one → slice_index l.above.items i ≡ i;
}
