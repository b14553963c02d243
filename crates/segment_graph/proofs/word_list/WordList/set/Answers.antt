use Rattle.std.proofs.Common.{arith}
use Rattle.segment_graph.proofs.Wording.{words_len, word_set}
use Rattle.segment_graph.proofs.word_list.WordList.set.Goals as goal

pub overflow_mul-index : goal.overflow_mul-index
overflow_mul-index c = let l = words_len c.self.inside.bytes c.args.self.now c.self.inside.len c.self.view_is in omega arith

pub set_u32-requires-clause-inside : goal.set_u32-requires-clause-inside
set_u32-requires-clause-inside c = let l = words_len c.self.inside.bytes c.args.self.now c.self.inside.len c.self.view_is in omega arith

pub returns : goal.returns
returns c =
    word_set c.self.inside.bytes c.set_u32.new.self c.args.self.now c.self.inside.len c.args.index c.args.word c.self.view_is c.requires c.set_u32.ensures.read c.set_u32.ensures.others
