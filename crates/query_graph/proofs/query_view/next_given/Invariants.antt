use Rattle.std.proofs.Common.{◌≡◌, ◌-◌, length, drop}
use Rattle.query_graph.specs.Ends.{given}
use Rattle.query_graph.proofs.query_view.next_given.Given as goal

-- those passed aren't there
abbrev pub invariant-loop-next : goal.invariant-loop-next
invariant-loop-next l = given (drop l.next l.hops) ≡ given (drop l.initial.next l.hops)

abbrev pub decreases-loop-next : goal.decreases-loop-next
decreases-loop-next l = length l.hops - l.next
