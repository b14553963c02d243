use Rattle.std.proofs.Common.{◌≡◌, length}
use Rattle.gh_base.specs.Networks.{wanted_from}
use Rattle.gh_base.proofs.views.RoadView.next_wanted.Given as goal

-- the first hop that is wanted is still to come
abbrev pub invariant-loop-hop : goal.invariant-loop-hop
invariant-loop-hop g l = record {
  first : wanted_from (g.U.Unwanted.is_unwanted l.unwanted) (g.Self.RoadView.left l.self) ≡ wanted_from (g.U.Unwanted.is_unwanted l.unwanted) (g.Self.RoadView.left l.fn.self);
  starts : g.Self.RoadView.starts l.self ≡ g.Self.RoadView.starts l.fn.self;
  network : g.Self.RoadView.network l.self ≡ g.Self.RoadView.network l.fn.self;
}

abbrev pub decreases-loop-hop : goal.decreases-loop-hop
decreases-loop-hop g l = length (g.Self.RoadView.left l.self)
