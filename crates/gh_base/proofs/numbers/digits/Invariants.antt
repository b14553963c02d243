use Rattle.std.proofs.Common.{◌≡◌, ◌<◌, ◌^◌, drop}
use Rattle.gh_base.specs.Decimals.{digits_from}
use Rattle.gh_base.proofs.numbers.digits.Given as goal

-- the number so far, and what is left, give the number
abbrev pub invariant-loop-b : goal.invariant-loop-b
invariant-loop-b l = record {
  left : digits_from l.n (drop l.b-index l.bytes) ≡ digits_from 0 l.bytes;
  small : l.n < 10 ^ l.b-index;
}
