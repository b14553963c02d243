use Rattle.json_laws.proofs.Grammar.{texts_read}
use Rattle.json_laws.proofs.laws.texts_are_read.Goals as goal

pub returns : goal.returns
returns c = λ v before text behind is space space_too. texts_read v before text behind is space space_too
