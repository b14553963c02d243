use Rattle.prep_store.proofs.Again.{stored_again}
use Rattle.prep_store.proofs.laws.stores_are_read_again.Goals as goal

pub returns : goal.returns
returns c = λ land prep text graph fits is_true store. stored_again land prep text graph fits is_true store
