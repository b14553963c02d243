use Rattle.std.proofs.Common.{◌≡◌, length}
use Rattle.exact_json.specs.Tokens.{after_space}
use Rattle.exact_json.proofs.tokens.skip.Given as goal

abbrev pub invariant-loop-b : goal.invariant-loop-b
invariant-loop-b l = after_space l.text ≡ after_space l.fn.text

abbrev pub decreases-loop-b : goal.decreases-loop-b
decreases-loop-b l = length l.text
