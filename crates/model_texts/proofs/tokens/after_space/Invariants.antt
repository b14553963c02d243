use Rattle.std.proofs.Common.{◌≡◌, length}
use Rattle.model_texts.specs.Tokens as spec
use Rattle.model_texts.proofs.tokens.after_space.Given as goal

abbrev pub invariant-loop-left : goal.invariant-loop-left
invariant-loop-left l = spec.after_space l.left ≡ spec.after_space l.bytes

abbrev pub decreases-loop-left : goal.decreases-loop-left
decreases-loop-left l = length l.left
