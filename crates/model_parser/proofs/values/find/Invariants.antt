use Rattle.std.proofs.Common.{◌≡◌, drop}
use Rattle.model_parser.specs.Values as spec
use Rattle.model_parser.proofs.values.find.Given as goal

abbrev pub invariant-loop-member : goal.invariant-loop-member
invariant-loop-member l = spec.find l.key (drop l.member-index l.members) ≡ spec.find l.key l.members
