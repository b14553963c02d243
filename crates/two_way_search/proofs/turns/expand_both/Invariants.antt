use Rattle.std.proofs.Common.{◌≡◌, ◌+◌, ◌-◌, ◌*◌, ◌^◌, ◌<◌}
use Rattle.two_way_search.specs.Meetings.{AreUnderway}
use Rattle.two_way_search.proofs.turns.expand_both.Given as goal

-- between two turns
abbrev pub invariant-turns : goal.invariant-turns
invariant-turns g l =
    let network = g.V.RoadView.network l.fn.out in
    let back = g.W.RoadView.network l.fn.back in
    record {
      same : g.V.RoadView.network l.out ≡ network;
      same_back : g.W.RoadView.network l.back ≡ back;
      starts : g.V.RoadView.starts l.out ≡ g.V.RoadView.starts l.fn.out + l.sides.forward.settled;
      starts_back : g.W.RoadView.starts l.back ≡ g.W.RoadView.starts l.fn.back + l.sides.backward.settled;
      few : network.nodes < 2 ^ 32;
      sides : AreUnderway network back (g.P.Potential.bound l.ahead) (g.Q.Potential.bound l.behind) l.fn.start.0 l.fn.target.0 l.sides.forward l.sides.backward l.sides.met;
    }

-- each turn settles a node on one side
abbrev pub decreases-turns : goal.decreases-turns
decreases-turns g l = 2 * (g.V.RoadView.network l.fn.out).nodes - (l.sides.forward.settled + l.sides.backward.settled)
