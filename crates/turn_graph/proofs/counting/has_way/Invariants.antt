use Rattle.std.proofs.Common.{◌≡◌, ◌<◌, length, All}
use Rattle.turn_graph.specs.Counting.{has_way}
use Rattle.base_graph.specs.Graphs.{around_of}
use Rattle.turn_graph.proofs.counting.has_way.Given as goal

-- those that were passed are of other ways
abbrev pub invariant-loop-by : goal.invariant-loop-by
invariant-loop-by l = record {
  rest : has_way l.ways l.way l.around ≡ has_way l.ways l.way (around_of l.graph.lists l.fn.tower.0);
  known : All (λ by. by.edge.0 < length l.graph.lists.edges) l.around;
}

abbrev pub decreases-loop-by : goal.decreases-loop-by
decreases-loop-by l = length l.around
