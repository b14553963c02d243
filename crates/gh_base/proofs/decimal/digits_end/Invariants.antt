use Rattle.std.proofs.Common.{◌≡◌, ℕ, ◌+◌, ◌-◌, ◌<◌, ◌≤◌, true, length, get_or}
use Rattle.std.specs.Char.{is_ascii_digit}
use Rattle.gh_base.proofs.decimal.digits_end.Given as goal

-- up to here all are digits
abbrev pub invariant-digits : goal.invariant-digits
invariant-digits l = record {
  within : l.end ≤ length l.text;
  least : l.from ≤ l.end;
  most : l.end ≤ l.from + l.most;
  digits : (i : ℕ) → l.from ≤ i → i < l.end → is_ascii_digit (get_or l.text i 0) ≡ true;
}

abbrev pub decreases-digits : goal.decreases-digits
decreases-digits l = length l.text - l.end
