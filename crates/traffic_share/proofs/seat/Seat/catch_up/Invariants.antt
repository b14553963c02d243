use Rattle.traffic_share.specs.Seats.{StartsWith}
use Rattle.traffic_share.specs.Seats.{HasSameSeat}
use Rattle.traffic_share.proofs.seat.Seat.catch_up.Given as goal

abbrev pub invariant-loop : goal.invariant-loop
invariant-loop g l = record { same : HasSameSeat l.fn.self l.self; longer : StartsWith l.self.entries l.fn.self.entries }
