use Rattle.model_check.proofs.Offenders.{exact}
use Rattle.model_check.proofs.checking.offenders_are_exact.Goals as goal

pub returns : goal.returns
returns c = exact
