use Rattle.std.proofs.Common.{length, ap, ◌∙◌, arith}
use Rattle.std.specs.Prelude.{slice_set}
use Rattle.search_queue.proofs.Tables.{length-numbers_in, written_numbers}
use Rattle.search_queue.proofs.node_table.NodeTable.set.Goals as goal

pub write-requires-clause-node : goal.write-requires-clause-node
write-requires-clause-node c =
    omega (arith, c.self.invariant.blocks, c.requires, length-numbers_in c.self.inside.pages c.self.inside.nodes, ap length c.self.view_is)

pub returns : goal.returns
returns c =
    let before = c.self.inside in
    let w = c.write.ensures in
    written_numbers before.pages c.write.new.self (length before.pages.starts.items) before.nodes c.args.node c.args.number (omega (arith, c.requires, length-numbers_in before.pages before.nodes, ap length c.self.view_is)) c.self.invariant.blocks w.written w.others ∙ ap (λ xs. slice_set xs c.args.node c.args.number) c.self.view_is
