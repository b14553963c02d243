use Rattle.std.proofs.Common.{◌≡◌, ◌+◌, drop}
use Rattle.model_eval.specs.Slowing as spec
use Rattle.model_check.proofs.checking.first_offence.Given as goal

abbrev pub invariant-loop-s : goal.invariant-loop-s
invariant-loop-s l = record {
  left : spec.offender_among l.part l.item (drop l.s-index l.statements) ≡ spec.offender_among l.part 1 l.statements;
  count : l.item ≡ l.s-index + 1;
}
