use Rattle.std.specs.Ordering.{int_eq}
use Rattle.std.specs.HashMap.{get}
use Rattle.std.proofs.Common.{◌≡◌, ℤ, take, filter}
use Rattle.turn_graph.specs.declared.turn.Turn.{Turn}
use Rattle.turn_graph.specs.Counting.{turns_in}
use Rattle.turn_graph.proofs.counting.by_node.Given as goal

-- those so far, by node
abbrev pub invariant-loop-turn : goal.invariant-loop-turn
invariant-loop-turn l = (id : ℤ) → turns_in (get int_eq l.rows id) ≡ filter (λ (turn : Turn). int_eq id turn.via) (take l.turn-index l.turns)
