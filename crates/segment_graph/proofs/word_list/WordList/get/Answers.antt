use Rattle.std.proofs.Common.{arith}
use Rattle.segment_graph.proofs.Wording.{words_len, word_there}
use Rattle.segment_graph.proofs.word_list.WordList.get.Goals as goal

pub overflow_mul-index : goal.overflow_mul-index
overflow_mul-index c = let l = words_len c.self.inside.bytes c.args.self.now c.self.inside.len c.self.view_is in omega arith

pub get_u32-requires-clause-inside : goal.get_u32-requires-clause-inside
get_u32-requires-clause-inside c = let l = words_len c.self.inside.bytes c.args.self.now c.self.inside.len c.self.view_is in omega arith

pub returns : goal.returns
returns c = word_there c.self.inside.bytes c.args.self.now c.self.inside.len c.args.index c.get_u32.result c.self.view_is c.requires c.get_u32.ensures
