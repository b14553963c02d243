use Rattle.std.proofs.Common.{◌≡◌, ◌+◌, false, length, Contains, IsSome, IsTrue}
use Rattle.gh_base.specs.declared.edges.Hop.{Hop}
use Rattle.landmark_choice.specs.Grouping.{AreGrouped}
use Rattle.landmark_choice.specs.Parts.{HasOpenHop}
use Rattle.landmark_choice.proofs.parts.join_hops.Given as goal

-- what is joined, but for the hops that are left
abbrev pub invariant-hops : goal.invariant-hops
invariant-hops g l = record {
  network : g.V.RoadView.network l.view ≡ g.V.RoadView.network l.fn.view;
  starts : g.V.RoadView.starts l.view ≡ g.V.RoadView.starts l.fn.view + 1;
  grouped : AreGrouped (g.V.RoadView.network l.fn.view) l.above l.node.0 (g.V.RoadView.left l.view);
  some : IsTrue l.is_open → HasOpenHop (g.V.RoadView.network l.fn.view) l.node.0;
  barred : l.is_open ≡ false → (hop : Hop) → Contains ((g.V.RoadView.network l.fn.view).hops l.node.0) hop → IsSome hop.weight → Contains (g.V.RoadView.left l.view) hop;
}

abbrev pub decreases-hops : goal.decreases-hops
decreases-hops g l = length (g.V.RoadView.left l.view)
