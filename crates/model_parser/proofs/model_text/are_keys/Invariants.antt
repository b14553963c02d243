use Rattle.std.proofs.Common.{◌≡◌, drop}
use Rattle.model_parser.specs.ModelText as spec
use Rattle.model_parser.proofs.model_text.are_keys.Given as goal

abbrev pub invariant-loop-member : goal.invariant-loop-member
invariant-loop-member l = spec.are_keys (drop l.member-index l.members) ≡ spec.are_keys l.members
