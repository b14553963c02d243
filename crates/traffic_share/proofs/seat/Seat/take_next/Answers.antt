use Rattle.std.proofs.Common.{arith}
use Rattle.traffic_share.proofs.NotesOfCells.{note_at}
use Rattle.traffic_share.proofs.seat.Seat.take_next.Goals as goal

pub get_as-requires : goal.get_as-requires
get_as-requires g c =
    note_at _ _ _ _ _ _ c.self.invariant.0 (grind arith) c.index_mut.ensures.value c.cell-cell.ensures
