use Rattle.std.proofs.Common.{ap, ◌∙◌, arith}
use Rattle.segment_graph.specs.declared.row.EdgeRow.{EdgeRow}
use Rattle.segment_graph.specs.Rows.{row_of, no_row}
use Rattle.segment_graph.proofs.Listing.{numbered_is, numbered_len}
use Rattle.segment_graph.proofs.rows.EdgeRows.line.Goals as goal

pub line_in-requires-clause-inside : goal.line_in-requires-clause-inside
line_in-requires-clause-inside c =
    let rows = numbered_len (row_of c.self.inside.words) c.self.inside.count c.args.self.now c.self.view_is in
    omega (arith, c.self.invariant.0, c.requires)

pub line_in-requires-clause-few : goal.line_in-requires-clause-few
line_in-requires-clause-few c =
    let rows = numbered_len (row_of c.self.inside.words) c.self.inside.count c.args.self.now c.self.view_is in
    omega (arith, c.self.invariant.1, c.requires)

pub returns : goal.returns
returns c =
    let there = numbered_is (row_of c.self.inside.words) c.self.inside.count c.args.edge.0 c.args.self.now no_row c.self.view_is c.requires in
    record {
      first = c.line_in.ensures.first ∙ ap (λ (row : EdgeRow). row.first_point) there;
      end = c.line_in.ensures.end ∙ ap (λ (row : EdgeRow). row.end_point) there;
    }
