use Rattle.std.proofs.Common.{◌≡◌, ◌-◌, length, drop}
use Rattle.query_graph.specs.Joined.{hops_into}
use Rattle.query_graph.proofs.query_view.next_into.Given as goal

-- those passed are no arrivals at the node
abbrev pub invariant-loop-next : goal.invariant-loop-next
invariant-loop-next l = hops_into l.target.0 l.node (drop l.next l.arrivals) ≡ hops_into l.target.0 l.node (drop l.initial.next l.arrivals)

abbrev pub decreases-loop-next : goal.decreases-loop-next
decreases-loop-next l = length l.arrivals - l.next
