use Rattle.plain_laws.proofs.WayOrder.{way_words_swapped}
use Rattle.plain_laws.proofs.laws.way_words_may_be_swapped.Goals as goal

pub returns : goal.returns
returns c = λ s t byte front one two back e. way_words_swapped s t byte front one two back e
