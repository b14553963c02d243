use Rattle.plain_laws.proofs.NodeOrder.{node_words_swapped}
use Rattle.plain_laws.proofs.laws.node_words_may_be_swapped.Goals as goal

pub returns : goal.returns
returns c = λ s t byte front one two back e. node_words_swapped s t byte front one two back e
