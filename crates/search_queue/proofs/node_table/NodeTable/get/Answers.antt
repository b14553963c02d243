use Rattle.std.proofs.Common.{length, sym, ap, ◌∙◌, arith}
use Rattle.std.specs.Prelude.{slice_index}
use Rattle.search_queue.proofs.Tables.{length-numbers_in, number-numbers_in}
use Rattle.search_queue.proofs.node_table.NodeTable.get.Goals as goal

pub number-requires-clause-node : goal.number-requires-clause-node
number-requires-clause-node c =
    omega (arith, c.self.invariant.blocks, c.requires, length-numbers_in c.self.inside.pages c.self.inside.nodes, ap length c.self.view_is)

pub returns : goal.returns
returns c =
    c.number.ensures ∙ (sym (number-numbers_in c.self.inside.pages c.self.inside.nodes c.args.node (omega (arith, c.requires, length-numbers_in c.self.inside.pages c.self.inside.nodes, ap length c.self.view_is))) ∙ ap (λ xs. slice_index xs c.args.node) c.self.view_is)
