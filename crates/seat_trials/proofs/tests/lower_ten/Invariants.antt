use Rattle.std.proofs.Common.{◌≡◌}
use Rattle.seat_trials.proofs.tests.lower_ten.Given as goal

abbrev pub invariant-loop-edge : goal.invariant-loop-edge
invariant-loop-edge g l = record {
  cells : l.seat.cells ≡ l.fn.seat.cells;
  last : l.seat.last ≡ l.edge;
}
