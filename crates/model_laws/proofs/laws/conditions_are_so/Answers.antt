use Rattle.model_laws.proofs.TextsShown.{conditions_so}
use Rattle.model_laws.proofs.laws.conditions_are_so.Goals as goal

pub returns : goal.returns
returns c = conditions_so
