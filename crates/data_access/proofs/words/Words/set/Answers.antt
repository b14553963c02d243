use Rattle.std.proofs.Common.{◌≡◌, ◌/◌, ◌%◌, List, ℕ, length, set, ap, ◌∙◌, arith}
use Rattle.data_access.specs.Words.{words_in}
use Rattle.data_access.proofs.InSegments.{segment_below, segment_long, word_set}
use Rattle.data_access.proofs.words.Words.set.Goals as goal

pub index_mut-segment-requires : goal.index_mut-segment-requires
index_mut-segment-requires c =
    let l = segment_below c.self.inside.segments.items c.args.self.now c.args.index c.self.invariant.full c.self.view_is c.requires in
    omega (arith, c.self.inside.segments.ok.0)

pub index_mut-requires : goal.index_mut-requires
index_mut-requires c =
    let below = segment_below c.self.inside.segments.items c.args.self.now c.args.index c.self.invariant.full c.self.view_is c.requires in
    let long = segment_long c.self.inside.segments.items (c.args.index / 262144) c.index_mut-segment.result.now c.self.invariant.full below c.index_mut-segment.ensures.value in
    let items : length c.segment.inside.words.items ≡ 262144 = ap length c.segment.view_is ∙ long in
    omega (arith, c.segment.inside.words.ok.0)

pub returns : goal.returns
returns c =
    ap (λ (s : List ℕ). words_in (set c.self.inside.segments.items (c.args.index / 262144) (set s (c.args.index % 262144) c.args.word))) c.segment.view_is
    ∙ word_set c.self.inside.segments.items c.args.self.now c.index_mut-segment.result.now c.args.index c.args.word c.self.invariant.full c.self.view_is c.requires c.index_mut-segment.ensures.value
