use Rattle.std.proofs.Common.{◌-◌, length}
use Rattle.traffic_core.specs.declared.entry.What.TheVariants.{Publish}
use Rattle.traffic_share.specs.Seats.{entry_of}
use Rattle.traffic_share.specs.Notes.{GoesOn}
use Rattle.traffic_share.proofs.seat.Seat.publish.Given as goal

abbrev pub invariant-turns : goal.invariant-turns
invariant-turns g l = GoesOn (entry_of l.fn.self l.number (Publish l.prep)) l.number l.fn.self l.self

abbrev pub decreases-turns : goal.decreases-turns
decreases-turns g l = length l.self.cells - length l.self.entries
