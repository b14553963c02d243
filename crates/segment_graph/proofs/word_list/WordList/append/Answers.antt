use Rattle.std.proofs.Common.{arith}
use Rattle.segment_graph.proofs.Wording.{words_len, words_added}
use Rattle.segment_graph.proofs.word_list.WordList.append.Goals as goal

pub put_words-requires-clause-few : goal.put_words-requires-clause-few
put_words-requires-clause-few c = let l = words_len c.self.inside.bytes c.args.self.now c.self.inside.len c.self.view_is in omega arith

pub invariant_of-self-2 : goal.invariant_of-self-2
invariant_of-self-2 c =
    let l = words_len c.self.inside.bytes c.args.self.now c.self.inside.len c.self.view_is in
    let long = c.in_ok-reserve_bytes.ensures.len in
    record { inside = omega arith; few = omega arith }

pub returns-clause-ok : goal.returns-clause-ok
returns-clause-ok c =
    words_added c.self.inside.bytes c.reserve_bytes.new.self c.put_words.new.bytes c.args.self.now c.args.row.now c.self.inside.len c.self.view_is
    c.self.invariant.inside c.in_ok-reserve_bytes.ensures.ok c.put_words.ensures.row c.put_words.ensures.before
