use Rattle.std.proofs.Common.{◌≡◌, List, ℕ, length, arith, length-append}
use Rattle.std.proofs.lemmas.List.Elements.{All-append}
use Rattle.data_access.proofs.InSegments.{words_in-zero, length-words_in}
use Rattle.data_access.proofs.words.Words.grow.Goals as goal

pub returns-clause-ok : goal.returns-clause-ok
returns-clause-ok c =
    rw (c.in_ok-append.ensures.items, ← c.self.view_is) (words_in-zero c.self.inside.segments.items c.in_ok-more.more.items c.in_ok-more.ensures.zero)

pub returns-clause-len : goal.returns-clause-len
returns-clause-len c =
    let full = All-append (λ (words : List ℕ). length words ≡ 262144) c.self.inside.segments.items c.in_ok-more.more.items c.self.invariant.full c.in_ok-more.ensures.long in
    rw (c.in_ok-append.ensures.items, ← c.self.view_is)
    (omega (arith, length-words_in 262144 _ full, length-words_in 262144 c.self.inside.segments.items c.self.invariant.full, length-append c.self.inside.segments.items c.in_ok-more.more.items, c.in_ok-more.ensures.count, c.self.inside.segments.ok.0))
