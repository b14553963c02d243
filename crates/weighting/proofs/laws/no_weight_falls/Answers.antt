use Rattle.weighting.proofs.Falls.{no_weight_falls}
use Rattle.weighting.proofs.laws.no_weight_falls.Goals as goal

pub returns : goal.returns
returns c = no_weight_falls
