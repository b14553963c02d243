use Rattle.weighting.proofs.Stored.{values_are_stored}
use Rattle.weighting.proofs.laws.graph_values_are_stored.Goals as goal

pub returns : goal.returns
returns c = values_are_stored c.args.graph.now.lists c.args.graph.now.facts
