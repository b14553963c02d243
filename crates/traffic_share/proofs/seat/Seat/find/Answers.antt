use Rattle.std.proofs.Common.{arith}
use Rattle.traffic_share.proofs.NotesOfCells.{note_at}
use Rattle.traffic_share.proofs.seat.Seat.find.Goals as goal

pub get_or_try_init_as-requires-clause-cell : goal.get_or_try_init_as-requires-clause-cell
get_or_try_init_as-requires-clause-cell g c =
    note_at _ _ _ _ _ _ c.self.invariant.0 (grind arith) c.index_mut.ensures.value c.cell-cell.ensures
