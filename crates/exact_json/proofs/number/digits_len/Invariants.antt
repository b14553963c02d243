use Rattle.std.proofs.Common.{◌≡◌, ◌+◌, drop}
use Rattle.std.specs.List.{prefix_len}
use Rattle.std.specs.Char.{is_ascii_digit}
use Rattle.exact_json.proofs.number.digits_len.Given as goal

abbrev pub invariant-loop-b : goal.invariant-loop-b
invariant-loop-b l = record {
  all : prefix_len is_ascii_digit l.bytes ≡ prefix_len is_ascii_digit (drop l.b-index l.bytes) + l.b-index;
  count : l.n ≡ l.b-index;
}
