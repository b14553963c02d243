use Rattle.traffic_share.specs.Notes.{AreNotesOf}
use Rattle.traffic_share.proofs.seat.Seat.new.Given as goal

abbrev pub invariant-loop-place : goal.invariant-loop-place
invariant-loop-place g l = AreNotesOf l.log l.place l.notes.items
