use Rattle.model_laws.proofs.TextsShown.{actions_so}
use Rattle.model_laws.proofs.laws.actions_are_so.Goals as goal

pub returns : goal.returns
returns c = actions_so
