use Rattle.std.proofs.Common.{ap, ◌∙◌, arith}
use Rattle.segment_graph.specs.Rows.{row_of, no_row, ends_of}
use Rattle.segment_graph.proofs.Listing.{numbered_is, numbered_len}
use Rattle.segment_graph.proofs.rows.EdgeRows.ends.Goals as goal

pub ends_in-requires-clause-inside : goal.ends_in-requires-clause-inside
ends_in-requires-clause-inside c =
    let rows = numbered_len (row_of c.self.inside.words) c.self.inside.count c.args.self.now c.self.view_is in
    omega (arith, c.self.invariant.0, c.requires)

pub ends_in-requires-clause-few : goal.ends_in-requires-clause-few
ends_in-requires-clause-few c =
    let rows = numbered_len (row_of c.self.inside.words) c.self.inside.count c.args.self.now c.self.view_is in
    omega (arith, c.self.invariant.1, c.requires)

pub returns : goal.returns
returns c = c.ends_in.ensures ∙ ap ends_of (numbered_is (row_of c.self.inside.words) c.self.inside.count c.args.edge.0 c.args.self.now no_row c.self.view_is c.requires)
