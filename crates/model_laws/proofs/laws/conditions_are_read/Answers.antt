use Rattle.model_laws.proofs.Grammar.{conditions_read}
use Rattle.model_laws.proofs.laws.conditions_are_read.Goals as goal

pub returns : goal.returns
returns c = λ areas x tokens text written spelled short few. conditions_read areas x tokens text written spelled short few
