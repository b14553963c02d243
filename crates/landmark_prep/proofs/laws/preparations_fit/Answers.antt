use Rattle.landmark_prep.proofs.Fitting.{preparation_fits}
use Rattle.landmark_prep.proofs.laws.preparations_fit.Goals as goal

pub returns : goal.returns
returns c = preparation_fits
