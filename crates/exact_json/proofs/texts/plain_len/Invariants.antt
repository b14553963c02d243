use Rattle.std.proofs.Common.{◌≡◌, ◌+◌, drop}
use Rattle.std.specs.List.{prefix_len}
use Rattle.exact_json.specs.Texts.{is_plain}
use Rattle.exact_json.proofs.texts.plain_len.Given as goal

abbrev pub invariant-loop-b : goal.invariant-loop-b
invariant-loop-b l = record {
  all : prefix_len is_plain l.bytes ≡ prefix_len is_plain (drop l.b-index l.bytes) + l.b-index;
  count : l.n ≡ l.b-index;
}
