use Rattle.std.proofs.Common.{◌≡◌, ◌-◌, length}
use Rattle.prep_store.specs.Ordering.{told_label, IsUnderway}
use Rattle.prep_store.proofs.ordering.list_nodes.Given as goal

abbrev pub invariant-nodes : goal.invariant-nodes
invariant-nodes g l =
    let network = g.V.RoadView.network l.fn.view in
    record {
      same : g.V.RoadView.network l.roads ≡ network;
      underway : IsUnderway network l.grain l.fn.landmark.0 (told_label l.told.prep.now l.told.landmark l.told.back) (g.V.RoadView.starts l.roads) l.listing l.queue;
    }

abbrev pub decreases-nodes : goal.decreases-nodes
decreases-nodes g l = (g.V.RoadView.network l.fn.view).nodes - length l.listing.items
