use Rattle.search_queue.proofs.Tables.{zero_numbers}
use Rattle.search_queue.proofs.node_table.NodeTable.new.Goals as goal

pub returns : goal.returns
returns c = zero_numbers c.in_ok-new.field-0 c.args.nodes c.in_ok-new.ensures.zero
