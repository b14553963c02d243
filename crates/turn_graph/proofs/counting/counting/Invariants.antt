use Rattle.std.proofs.Common.{◌≡◌, take, filter}
use Rattle.base_graph.specs.Graphs.{around_of}
use Rattle.turn_graph.specs.Counting.{counts_by}
use Rattle.turn_graph.proofs.counting.counting.Given as goal

-- those so far that count
abbrev pub invariant-loop-turn : goal.invariant-loop-turn
invariant-loop-turn l = l.kept.items ≡ filter (counts_by l.ways (around_of l.graph.lists l.tower.0)) (take l.turn-index l.turns)
