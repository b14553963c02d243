use Rattle.std.proofs.Common.{◌≡◌, ◌+◌, drop}
use Rattle.std.specs.List.{prefix_len}
use Rattle.model_texts.specs.Tokens.{in_word}
use Rattle.model_texts.proofs.tokens.word_len.Given as goal

abbrev pub invariant-loop-b : goal.invariant-loop-b
invariant-loop-b l = record {
  all : prefix_len in_word l.bytes ≡ prefix_len in_word (drop l.b-index l.bytes) + l.b-index;
  count : l.n ≡ l.b-index;
}
