use Rattle.std.proofs.Common.{◌%◌, ◌/◌, ◌<◌, length, eqb, ap, ◌∙◌, arith}
use Rattle.segment_graph.specs.Rows.{row_of, no_row, next_on}
use Rattle.segment_graph.proofs.Listing.{numbered_is, numbered_len}
use Rattle.segment_graph.proofs.rows.EdgeRows.next.Goals as goal

pub next_in-requires-clause-inside : goal.next_in-requires-clause-inside
next_in-requires-clause-inside c =
    let rows = numbered_len (row_of c.self.inside.words) c.self.inside.count c.args.self.now c.self.view_is in
    omega (arith, c.self.invariant.0, c.requires)

pub next_in-requires-clause-few : goal.next_in-requires-clause-few
next_in-requires-clause-few c =
    let rows = numbered_len (row_of c.self.inside.words) c.self.inside.count c.args.self.now c.self.view_is in
    omega (arith, c.self.invariant.1, c.requires)

pub returns : goal.returns
returns c =
    let there : c.args.half / 2 < length c.args.self.now = omega (arith, c.requires) in
    c.next_in.ensures ∙ ap (next_on (eqb (c.args.half % 2) 1)) (numbered_is (row_of c.self.inside.words) c.self.inside.count (c.args.half / 2) c.args.self.now no_row c.self.view_is there)
