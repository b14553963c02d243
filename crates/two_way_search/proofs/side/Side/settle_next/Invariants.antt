use Rattle.std.proofs.Common.{◌≡◌, ◌+◌, ℕ, length}
use Rattle.two_way_search.specs.Sides.{IsSide}
use Rattle.two_way_search.specs.Meetings.{IsMet}
use Rattle.two_way_search.proofs.Going.{IsGoing}
use Rattle.two_way_search.proofs.side.Side.settle_next.Given as goal

-- between two hops of a node
abbrev pub invariant-hops : goal.invariant-hops
invariant-hops g l =
    let network = g.V.RoadView.network l.fn.view in
    let ahead = g.P.Potential.bound l.ahead in
    let behind = g.Q.Potential.bound l.behind in
    record {
      same : g.V.RoadView.network l.view ≡ network;
      starts : g.V.RoadView.starts l.view ≡ g.V.RoadView.starts l.fn.view + 1;
      settled : l.self.settled ≡ l.fn.self.settled + 1;
      going : (end least : ℕ) → IsSide network ahead behind end least l.fn.self → IsGoing network ahead behind end l.self.settled l.node l._key l.from l.self.reached l.self.queue (g.V.RoadView.left l.view);
      meets : IsMet l.self.reached l.other l.met;
    }

abbrev pub decreases-hops : goal.decreases-hops
decreases-hops g l = length (g.V.RoadView.left l.view)
