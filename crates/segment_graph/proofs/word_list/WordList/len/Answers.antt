use Rattle.segment_graph.proofs.Wording.{words_len}
use Rattle.segment_graph.proofs.word_list.WordList.len.Goals as goal

pub returns : goal.returns
returns c = words_len c.self.inside.bytes c.args.self.now c.self.inside.len c.self.view_is
