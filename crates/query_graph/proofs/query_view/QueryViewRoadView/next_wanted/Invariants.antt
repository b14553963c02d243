use Rattle.std.proofs.Common.{◌≡◌, ◌+◌, length}
use Rattle.gh_base.specs.Networks.{wanted_from}
use Rattle.query_graph.specs.Joined.{joined, joined_left}
use Rattle.query_graph.proofs.query_view.QueryViewRoadView.next_wanted.Given as goal

-- the first hop that is wanted is still to come
abbrev pub invariant-loop-hop : goal.invariant-loop-hop
invariant-loop-hop g l =
    let left = joined_left (g.V.RoadView.network l.self.base) (g.V.RoadView.left l.self.base) l.self.from l.self.to l.self.direct l.self.node l.self.next l.self.passed in
    let first_left = joined_left (g.V.RoadView.network l.fn.self.base) (g.V.RoadView.left l.fn.self.base) l.fn.self.from l.fn.self.to l.fn.self.direct l.fn.self.node l.fn.self.next l.fn.self.passed in
    record {
      first : wanted_from (g.U.Unwanted.is_unwanted l.unwanted) left ≡ wanted_from (g.U.Unwanted.is_unwanted l.unwanted) first_left;
      starts : g.V.RoadView.starts l.self.base + l.self.own_starts ≡ g.V.RoadView.starts l.fn.self.base + l.fn.self.own_starts;
      network : joined (g.V.RoadView.network l.self.base) l.self.from l.self.to l.self.direct ≡ joined (g.V.RoadView.network l.fn.self.base) l.fn.self.from l.fn.self.to l.fn.self.direct;
    }

abbrev pub decreases-loop-hop : goal.decreases-loop-hop
decreases-loop-hop g l = length (joined_left (g.V.RoadView.network l.self.base) (g.V.RoadView.left l.self.base) l.self.from l.self.to l.self.direct l.self.node l.self.next l.self.passed)
