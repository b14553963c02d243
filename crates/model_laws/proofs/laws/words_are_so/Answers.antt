use Rattle.model_laws.proofs.TextsShown.{words_so}
use Rattle.model_laws.proofs.laws.words_are_so.Goals as goal

pub returns : goal.returns
returns c = words_so
