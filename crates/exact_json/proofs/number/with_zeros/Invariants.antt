use Rattle.std.proofs.Common.{◌≡◌, ◌<◌, ◌^◌, ◌*◌, ◌-◌}
use Rattle.exact_json.proofs.number.with_zeros.Given as goal

abbrev pub invariant-loop-turn : goal.invariant-loop-turn
invariant-loop-turn l = record {
  left : l.n * 10 ^ (l.count - l._turn) ≡ l.fn.start * 10 ^ l.count;
  small : l.n < 10 ^ 18;
}
