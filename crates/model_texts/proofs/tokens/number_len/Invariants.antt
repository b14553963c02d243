use Rattle.std.proofs.Common.{◌≡◌, ◌+◌, drop}
use Rattle.std.specs.List.{prefix_len}
use Rattle.model_texts.specs.Tokens.{in_number}
use Rattle.model_texts.proofs.tokens.number_len.Given as goal

abbrev pub invariant-loop-b : goal.invariant-loop-b
invariant-loop-b l = record {
  all : prefix_len in_number l.bytes ≡ prefix_len in_number (drop l.b-index l.bytes) + l.b-index;
  count : l.n ≡ l.b-index;
}
