use Rattle.std.proofs.Common.{◌<◌, length, arith}
use Rattle.segment_graph.proofs.Counting.{edge_kept_by}
use Rattle.segment_graph.proofs.graph.SegmentGraph.add_edge.Goals as goal

pub invariant_of-self : goal.invariant_of-self
invariant_of-self c =
    let graph = c.args.self.now.lists in
    let facts = c.args.self.now.facts in
    let few = facts.few_edges in
    let room : length graph.edges < 4000000 = omega arith in
    record {
      facts = edge_kept_by graph c.add_edge.new.self _ c.add_edge.result facts
          (record { base = c.requires.base; adjacent = c.requires.adjacent; mm = omega arith; between = c.requires.between; values = c.both_are_in_range.ensures }) room
          c.add_edge.ensures.ok c.add_edge.ensures.err;
    }
