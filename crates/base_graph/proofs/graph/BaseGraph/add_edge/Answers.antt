use Rattle.std.proofs.Common.{arith, ◌<◌, length}
use Rattle.base_graph.proofs.Grown.{edge_kept_by}
use Rattle.base_graph.proofs.graph.BaseGraph.add_edge.Goals as goal

pub invariant_of-self : goal.invariant_of-self
invariant_of-self c =
    let graph = c.args.self.now.lists in
    let facts = c.args.self.now.facts in
    let few = facts.few_edges in
    let room : length graph.edges < 4000000 = omega arith in
    let between = c.requires.between in
    record {
      facts = edge_kept_by graph _ _ _ facts
          (record { base = c.requires.base; adjacent = c.requires.adjacent; mm = omega arith; between = between; values = c.both_are_in_range.ensures }) room
          c.add_edge.ensures.ok c.add_edge.ensures.err;
    }
