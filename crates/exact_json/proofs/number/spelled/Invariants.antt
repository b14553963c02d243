use Rattle.std.proofs.Common.{◌≡◌, ◌<◌, ◌^◌, drop}
use Rattle.exact_json.specs.Decimals as decimals
use Rattle.exact_json.proofs.number.spelled.Given as goal

abbrev pub invariant-loop-b : goal.invariant-loop-b
invariant-loop-b l = record {
  left : decimals.spelled l.n (drop l.b-index l.digits) ≡ decimals.spelled l.fn.start l.digits;
  small : l.n < 10 ^ 18;
}
