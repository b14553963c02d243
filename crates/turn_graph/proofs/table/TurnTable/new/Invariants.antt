use Rattle.std.proofs.Common.{◌≡◌, ℕ, ◌<◌, length, slice_get, slice_index_or, [], filter}
use Rattle.std.specs.Ordering.{int_eq}
use Rattle.std.specs.HashMap.{get}
use Rattle.base_graph.specs.Graphs.{around_of}
use Rattle.turn_graph.specs.Counting.{counts_by, standing_at}
use Rattle.turn_graph.proofs.table.TurnTable.new.Given as goal

-- the rows so far
abbrev pub invariant-loop-node : goal.invariant-loop-node
invariant-loop-node l = record {
  count : length l.rows.items ≡ l.node;
  each : (tower : ℕ) → tower < l.node → slice_index_or l.rows.items tower []
      ≡ filter (counts_by l.ways (around_of l.roads.graph.lists tower)) (standing_at (get int_eq l.standing) (slice_get l.roads.ids tower));
}
