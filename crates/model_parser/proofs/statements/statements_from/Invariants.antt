use Rattle.std.proofs.Common.{◌≡◌, ◌+◌, [], false, drop, length}
use Rattle.model_parser.specs.Statements as spec
use Rattle.model_parser.proofs.Blocks.{AreSound}
use Rattle.model_parser.proofs.statements.statements_from.Given as goal

abbrev pub invariant-loop-value : goal.invariant-loop-value
invariant-loop-value l = record {
  read : spec.statements_from l.fn.running l.areas l.item l.may_go_on l.found (drop l.value-index l.values) ≡ spec.statements_from l.fn.running l.areas 1 false [] l.values;
  count : l.item ≡ l.value-index + 1;
  size : length l.found ≡ l.value-index;
  sound : AreSound (length l.areas) l.may_go_on l.found;
}
