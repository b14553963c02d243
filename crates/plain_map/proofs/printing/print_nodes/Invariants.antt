use Rattle.std.proofs.Common.{◌≤◌, ◌++◌, drop, map}
use Rattle.plain_map.specs.Printing.{lines_text, node_text}
use Rattle.plain_map.specs.Sending.{Sends}
use Rattle.plain_map.proofs.printing.print_nodes.Given as goal

-- what waits, and the lines that are left, are what is left to give
abbrev pub invariant-loop-node : goal.invariant-loop-node
invariant-loop-node g l = record {
  sent : Sends (g.K.Sink.held l.fn.sink) (g.K.Sink.held l.sink) (l.fn.waiting.items ++ lines_text (map node_text l.nodes)) (l.waiting.items ++ lines_text (map node_text (drop l.node-index l.nodes)));
  later : g.K.Sink.faults l.fn.sink ≤ g.K.Sink.faults l.sink;
}
