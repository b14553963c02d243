use Rattle.weighting.proofs.Turned.{sides_turn_along_edges}
use Rattle.weighting.proofs.laws.sides_turn_along_edges.Goals as goal

pub returns : goal.returns
returns c = sides_turn_along_edges
