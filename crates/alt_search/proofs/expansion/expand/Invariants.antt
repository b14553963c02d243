use Rattle.std.proofs.Common.{◌≡◌, ◌+◌, ◌-◌, ◌^◌, ◌<◌, ◌≤◌, ℕ, Some, length, Contains}
use Rattle.gh_base.specs.declared.edges.Hop.{Hop}
use Rattle.walk_rules.specs.Walks.{hops_from}
use Rattle.walk_rules.specs.Potentials.{FallsAlong}
use Rattle.alt_search.specs.Progress.{IsSettled, IsOrdered, IsUnderway, IsInOrder}
use Rattle.alt_search.proofs.expansion.expand.Given as goal

-- between two nodes
abbrev pub invariant-nodes : goal.invariant-nodes
invariant-nodes g l =
    let network = g.V.RoadView.network l.fn.view in
    let bound = g.P.Potential.bound l.potential in
    record {
      same : g.V.RoadView.network l.view ≡ network;
      starts : g.V.RoadView.starts l.view ≡ g.V.RoadView.starts l.fn.view + l.settled;
      few : network.nodes < 2 ^ 32;
      underway : IsUnderway network bound l.fn.start.0 l.target.0 l.settled l.reached l.queue;
      in_order : FallsAlong network bound → IsInOrder network bound l.reached l.queue;
    }

-- each start settles a node
abbrev pub decreases-nodes : goal.decreases-nodes
decreases-nodes g l = (g.V.RoadView.network l.fn.view).nodes - l.settled

-- between two hops of a node
abbrev pub invariant-hops : goal.invariant-hops
invariant-hops g l =
    let network = g.V.RoadView.network l.fn.view in
    let bound = g.P.Potential.bound l.potential in
    record {
      same : g.V.RoadView.network l.view ≡ network;
      starts : g.V.RoadView.starts l.view ≡ g.V.RoadView.starts l.fn.view + l.settled;
      few : network.nodes < 2 ^ 32;
      underway : IsUnderway network bound l.fn.start.0 l.target.0 l.settled l.reached l.queue;
      from_settled : IsSettled l.reached l.queue l.node.0 l.from;
      deep : l.from.depth + 1 ≤ l.settled;
      rest : (hop : Hop) → Contains (g.V.RoadView.left l.view) hop → Contains (hops_from network l.node.0) hop;
      ordered : FallsAlong network bound → (x : ℕ) × (bound l.node.0 ≡ Some x) × IsOrdered network bound (l.from.weight + x) l.reached l.queue l.node.0 (g.V.RoadView.left l.view);
    }

abbrev pub decreases-hops : goal.decreases-hops
decreases-hops g l = length (g.V.RoadView.left l.view)
