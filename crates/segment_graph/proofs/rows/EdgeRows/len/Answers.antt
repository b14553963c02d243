use Rattle.segment_graph.specs.Rows.{row_of}
use Rattle.segment_graph.proofs.Listing.{numbered_len}
use Rattle.segment_graph.proofs.rows.EdgeRows.len.Goals as goal

pub returns-clause-len : goal.returns-clause-len
returns-clause-len c = numbered_len (row_of c.self.inside.words) c.self.inside.count c.args.self.now c.self.view_is
