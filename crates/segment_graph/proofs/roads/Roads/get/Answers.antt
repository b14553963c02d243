use Rattle.std.proofs.Common.{◌∙◌, arith}
use Rattle.value_plan.specs.Slots.{number_of}
use Rattle.segment_graph.specs.Roads.{road_of, value_word, held_along}
use Rattle.segment_graph.proofs.Listing.{numbered_len}
use Rattle.segment_graph.proofs.Holding.{holds, along_held, holds_some}
use Rattle.segment_graph.proofs.roads.Roads.get.Goals as goal

pub take_values-requires-clause-edge : goal.take_values-requires-clause-edge
take_values-requires-clause-edge c =
    let l = numbered_len (road_of c.self.inside.kept.words) c.self.inside.kept.count c.args.self.now c.self.view_is in
    omega (arith, c.requires.edge)

pub take_values-requires-clause-held : goal.take_values-requires-clause-held
take_values-requires-clause-held c =
    holds_some c.self.inside.kept.words c.self.inside.kept.count c.args.edge.0 c.args.self.now c.args.reverse c.self.view_is c.requires.edge c.requires.in_range

pub returns : goal.returns
returns c =
    let number = number_of (value_word c.self.inside.kept.words c.args.edge.0) in
    c.take_values.ensures (held_along number c.args.reverse) (holds number c.args.reverse)
    ∙ along_held c.self.inside.kept.words c.self.inside.kept.count c.args.edge.0 c.args.self.now c.args.reverse c.self.view_is c.requires.edge
