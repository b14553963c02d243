use Rattle.model_laws.proofs.Wholes.{orphans_refused}
use Rattle.model_laws.proofs.laws.orphans_are_refused.Goals as goal

pub returns : goal.returns
returns c = orphans_refused
