use Rattle.std.proofs.Common.{◌≤◌, ◌++◌, drop, map}
use Rattle.plain_map.specs.Printing.{lines_text, way_text}
use Rattle.plain_map.specs.Sending.{Sends}
use Rattle.plain_map.proofs.printing.print_ways.Given as goal

-- what waits, and the lines that are left, are what is left to give
abbrev pub invariant-loop-way : goal.invariant-loop-way
invariant-loop-way g l = record {
  sent : Sends (g.K.Sink.held l.fn.sink) (g.K.Sink.held l.sink) (l.fn.waiting.items ++ lines_text (map way_text l.ways)) (l.waiting.items ++ lines_text (map way_text (drop l.way-index l.ways)));
  later : g.K.Sink.faults l.fn.sink ≤ g.K.Sink.faults l.sink;
}
