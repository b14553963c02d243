use Rattle.plain_laws.proofs.NodeOrder.{node_words_skipped}
use Rattle.plain_laws.proofs.WayOrder.{way_words_skipped}
use Rattle.plain_laws.proofs.laws.skipped_words_say_nothing.Goals as goal

pub returns : goal.returns
returns c = record {
  of_nodes = λ s t byte front word back skipped e. node_words_skipped s t byte front word back skipped e;
  of_ways = λ s t byte front word back skipped e. way_words_skipped s t byte front word back skipped e;
}
