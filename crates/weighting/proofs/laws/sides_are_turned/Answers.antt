use Rattle.weighting.proofs.Turned.{sides_are_turned}
use Rattle.weighting.proofs.laws.sides_are_turned.Goals as goal

pub returns : goal.returns
returns c = sides_are_turned
