use Rattle.std.proofs.Common.{arith}
use Rattle.segment_graph.specs.Rows.{row_of}
use Rattle.segment_graph.proofs.Listing.{numbered_len}
use Rattle.segment_graph.proofs.Rowing.{row_longer, row_pushed}
use Rattle.segment_graph.proofs.rows.EdgeRows.push.Goals as goal

pub invariant_of-self-2 : goal.invariant_of-self-2
invariant_of-self-2 c =
    let l = numbered_len (row_of c.self.inside.words) c.self.inside.count c.args.self.now c.self.view_is in
    (row_longer c.self.inside.words c.append.new.self c.self.inside.count c.args.row c.self.invariant.0 c.in_ok-append.ensures.ok, omega (arith, c.requires))

pub returns-clause-ok : goal.returns-clause-ok
returns-clause-ok c =
    row_pushed c.self.inside.words c.append.new.self c.self.inside.count c.args.self.now c.args.row c.self.view_is c.self.invariant.0 c.in_ok-append.ensures.ok
