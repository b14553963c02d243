use Rattle.model_laws.proofs.TextsShown.{names_so}
use Rattle.model_laws.proofs.laws.names_are_so.Goals as goal

pub returns : goal.returns
returns c = names_so
