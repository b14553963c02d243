use Rattle.std.proofs.Common.{◌≡◌, ◌/◌, length, ap, ◌∙◌, arith}
use Rattle.data_access.proofs.InSegments.{segment_below, segment_long, word_there}
use Rattle.data_access.proofs.words.Words.get.Goals as goal

pub index-segment-requires : goal.index-segment-requires
index-segment-requires c =
    let l = segment_below c.self.inside.segments.items c.args.self.now c.args.index c.self.invariant.full c.self.view_is c.requires in
    omega (arith, c.self.inside.segments.ok.0)

pub index-requires : goal.index-requires
index-requires c =
    let below = segment_below c.self.inside.segments.items c.args.self.now c.args.index c.self.invariant.full c.self.view_is c.requires in
    let long = segment_long c.self.inside.segments.items (c.args.index / 262144) c.index-segment.result.now c.self.invariant.full below c.index-segment.ensures in
    let items : length c.segment.inside.words.items ≡ 262144 = ap length c.segment.view_is ∙ long in
    omega (arith, c.segment.inside.words.ok.0)

pub returns : goal.returns
returns c =
    word_there c.self.inside.segments.items c.args.self.now c.index-segment.result.now c.args.index c.index.result.now c.self.invariant.full c.self.view_is c.requires c.index-segment.ensures
    (rw c.segment.view_is at c.index.ensures)
