use Rattle.traffic_share.proofs.EntriesFound.{first_over}
use Rattle.traffic_share.proofs.seat.Seat.first_below.Goals as goal

pub first_below-requires : goal.first_below-requires
first_below-requires g c =
    rw (c.snapshot.ensures, c.prep.ensures, c.state.ensures.land) c.shared.ensures.holds.long

pub returns : goal.returns
returns g c =
    first_over g.J.Naming.land _ _ _ c.first_below.result c.state.ensures.stands c.state.ensures.land (rw (c.snapshot.ensures, c.prep.ensures, c.shared.ensures.same) at c.first_below.ensures)
