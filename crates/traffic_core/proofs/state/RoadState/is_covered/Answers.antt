use Rattle.traffic_core.proofs.StandsAfter.{covered_or_below}
use Rattle.traffic_core.proofs.state.RoadState.is_covered.Goals as goal

pub returns : goal.returns
returns c = covered_or_below _ _ _ c.first_below.result c.is_none.result c.is_none.ensures (rw c.snapshot.ensures at c.first_below.ensures)
