use Rattle.std.proofs.Common.{◌≡◌, ◌<◌, not, filter, length, All}
use Rattle.gh_base.specs.declared.edges.Hop.{Hop}
use Rattle.turn_graph.specs.Tables.{is_banned}
use Rattle.turn_graph.proofs.view.next_free.Given as goal

-- those that were passed are banned
abbrev pub invariant-loop-hop : goal.invariant-loop-hop
invariant-loop-hop g l = record {
  rest : filter (λ (hop : Hop). not (is_banned l.graph.lists l.turns l.by hop.by)) (g.V.RoadView.left l.base)
      ≡ filter (λ (hop : Hop). not (is_banned l.graph.lists l.turns l.by hop.by)) (g.V.RoadView.left l.fn.base);
  known : All (λ (hop : Hop). hop.by.edge.0 < length l.graph.lists.edges) (g.V.RoadView.left l.base);
  starts : g.V.RoadView.starts l.base ≡ g.V.RoadView.starts l.fn.base;
  network : g.V.RoadView.network l.base ≡ g.V.RoadView.network l.fn.base;
}

abbrev pub decreases-loop-hop : goal.decreases-loop-hop
decreases-loop-hop g l = length (g.V.RoadView.left l.base)
