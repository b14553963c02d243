use Rattle.weighting.proofs.Falls.{weights_fit}
use Rattle.weighting.proofs.laws.weights_fit.Goals as goal

pub returns : goal.returns
returns c = weights_fit
