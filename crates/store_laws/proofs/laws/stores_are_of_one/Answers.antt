use Rattle.store_laws.proofs.Parsing.{one_stored}
use Rattle.store_laws.proofs.laws.stores_are_of_one.Goals as goal

pub returns : goal.returns
returns c = λ land one other bytes graph a b. one_stored land one other bytes graph a b
