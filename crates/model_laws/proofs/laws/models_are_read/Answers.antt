use Rattle.model_laws.proofs.Wholes.{models_read}
use Rattle.model_laws.proofs.laws.models_are_read.Goals as goal

pub returns : goal.returns
returns c = λ model ms is. models_read model ms is
