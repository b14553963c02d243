use Rattle.std.proofs.Common.{◌≡◌, ◌+◌, length, Contains}
use Rattle.gh_base.specs.declared.edges.Hop.{Hop}
use Rattle.walk_rules.specs.Walks.{hops_from}
use Rattle.prep_store.specs.Ordering.{told_label, IsOpenBut}
use Rattle.prep_store.proofs.ordering.offer_hops.Given as goal

-- the keys are those of the candidates, but for the hops that are left
abbrev pub invariant-hops : goal.invariant-hops
invariant-hops g l =
    let network = g.V.RoadView.network l.fn.view in
    record {
      same : g.V.RoadView.network l.view ≡ network;
      starts : g.V.RoadView.starts l.view ≡ g.V.RoadView.starts l.fn.view + 1;
      keys : length l.queue ≡ length l.fn.queue;
      rest : (hop : Hop) → Contains (g.V.RoadView.left l.view) hop → Contains (hops_from network l.fn.last.node.0) hop;
      keyed : IsOpenBut network l.grain (told_label l.told.prep.now l.told.landmark l.told.back) l.listing.items l.fn.last.label (g.V.RoadView.left l.view) l.queue;
    }

abbrev pub decreases-hops : goal.decreases-hops
decreases-hops g l = length (g.V.RoadView.left l.view)
