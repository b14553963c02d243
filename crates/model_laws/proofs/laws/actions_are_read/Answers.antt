use Rattle.model_laws.proofs.Acting.{actions_read}
use Rattle.model_laws.proofs.laws.actions_are_read.Goals as goal

pub returns : goal.returns
returns c = actions_read
