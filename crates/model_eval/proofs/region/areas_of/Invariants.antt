use Rattle.std.proofs.Common.{◌≡◌, ◌≤◌, drop, length}
use Rattle.model_eval.specs.Regions as spec
use Rattle.model_eval.proofs.region.areas_of.Given as goal

abbrev pub invariant-loop-left : goal.invariant-loop-left
invariant-loop-left g l = record {
  word : l.word ≡ spec.areas_at (drop l.left l.areas) l.shape;
  within : l.left ≤ length l.areas;
}

abbrev pub decreases-loop-left : goal.decreases-loop-left
decreases-loop-left g l = l.left
