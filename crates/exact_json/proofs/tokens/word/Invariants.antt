use Rattle.std.proofs.Common.{◌≡◌, drop}
use Rattle.exact_json.specs.Tokens as spec
use Rattle.exact_json.proofs.tokens.word.Given as goal

abbrev pub invariant-loop-b : goal.invariant-loop-b
invariant-loop-b l = spec.word (drop l.b-index l.wanted) l.text ≡ spec.word l.wanted l.fn.text
