use Rattle.std.proofs.Common.{◌≡◌}
use Rattle.model_texts.specs.Conditions as spec
use Rattle.model_texts.proofs.conditions.nots.Given as goal

abbrev pub invariant-loop-turn : goal.invariant-loop-turn
invariant-loop-turn l = l.x ≡ spec.nots l._turn l.fn.x
