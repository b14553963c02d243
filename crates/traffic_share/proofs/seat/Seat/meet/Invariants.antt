use Rattle.std.proofs.Common.{◌≡◌, ℕ, ◌<◌, get_or}
use Rattle.traffic_core.specs.declared.entry.Entry.{Entry}
use Rattle.traffic_share.proofs.seat.Seat.meet.Given as goal

abbrev pub invariant-loop-place : goal.invariant-loop-place
invariant-loop-place g l = record {
  this : l.self ≡ l.fn.self;
  that : l.other ≡ l.fn.other;
  one : (k : ℕ) (d : Entry) → k < l.place → get_or l.self.entries k d ≡ get_or l.other.entries k d;
}
