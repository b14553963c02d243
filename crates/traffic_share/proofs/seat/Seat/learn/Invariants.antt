use Rattle.std.proofs.Common.{◌≡◌, take}
use Rattle.traffic_share.specs.Seats.{HasSameSeat}
use Rattle.traffic_share.proofs.seat.Seat.learn.Given as goal

abbrev pub invariant-loop : goal.invariant-loop
invariant-loop g l = record {
  same : HasSameSeat l.fn.self l.self;
  other : l.other ≡ l.fn.other;
  front : l.self.entries ≡ take l.counter l.other.entries;
}
