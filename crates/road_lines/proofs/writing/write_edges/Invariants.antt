use Rattle.std.proofs.Common.{◌≤◌, ◌++◌, drop, map}
use Rattle.plain_map.specs.Printing.{lines_text}
use Rattle.plain_map.specs.Sending.{Sends}
use Rattle.road_lines.specs.Lines.{line_of, edge_numbers, lines_of}
use Rattle.road_lines.proofs.writing.write_edges.Given as goal

-- what waits, and the lines that are left, are what is left to give
abbrev pub invariant-loop-number : goal.invariant-loop-number
invariant-loop-number g l = record {
  sent : Sends (g.K.Sink.held l.fn.sink) (g.K.Sink.held l.sink) (l.fn.waiting.items ++ lines_of l.roads l.ways) (l.waiting.items ++ lines_text (map (line_of l.roads l.ways) (drop l.number (edge_numbers l.roads))));
  later : g.K.Sink.faults l.fn.sink ≤ g.K.Sink.faults l.sink;
}
