use Rattle.prep_store.proofs.Shown.{stored_true}
use Rattle.prep_store.proofs.laws.stored_is_true.Goals as goal

pub returns : goal.returns
returns c = λ land prep bytes graph stored. stored_true land prep bytes graph stored
