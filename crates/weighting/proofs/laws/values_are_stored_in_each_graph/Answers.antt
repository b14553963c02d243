use Rattle.weighting.proofs.Stored.{values_are_stored}
use Rattle.weighting.proofs.laws.values_are_stored_in_each_graph.Goals as goal

pub returns : goal.returns
returns c = values_are_stored
