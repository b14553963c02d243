use Rattle.std.proofs.Common.{arith}
use Rattle.segment_graph.proofs.Wording.{words_len, words_cut}
use Rattle.segment_graph.proofs.word_list.WordList.truncate.Goals as goal

pub invariant_of-self : goal.invariant_of-self
invariant_of-self c =
    let l = words_len c.self.inside.bytes c.args.self.now c.self.inside.len c.self.view_is in
    record { inside = omega arith; few = omega arith }

pub returns : goal.returns
returns c = words_cut c.self.inside.bytes c.args.self.now c.self.inside.len c.args.len c.self.view_is c.requires
