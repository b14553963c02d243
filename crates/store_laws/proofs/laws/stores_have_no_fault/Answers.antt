use Rattle.store_laws.proofs.NoFaultsAtAll.{no_fault}
use Rattle.store_laws.proofs.laws.stores_have_no_fault.Goals as goal

pub returns : goal.returns
returns c = λ land prep bytes fault graph stored f. no_fault land prep bytes fault graph stored f
