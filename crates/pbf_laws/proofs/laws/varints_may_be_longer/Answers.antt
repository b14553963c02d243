use Rattle.pbf_laws.proofs.Varints.{longer}
use Rattle.pbf_laws.proofs.laws.varints_may_be_longer.Goals as goal

pub returns : goal.returns
returns c = λ groups rest h some few. longer groups rest h some few
