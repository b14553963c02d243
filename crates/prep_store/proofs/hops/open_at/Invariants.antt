use Rattle.std.proofs.Common.{◌≡◌, ◌+◌, length}
use Rattle.walk_rules.specs.Walks.{hops_from}
use Rattle.prep_store.specs.Evidence.{label_in}
use Rattle.prep_store.specs.Steps.{IsLeastSoFar}
use Rattle.prep_store.proofs.hops.open_at.Given as goal

-- the least open hop is that of those so far
abbrev pub invariant-hops : goal.invariant-hops
invariant-hops g l = record {
  same : g.V.RoadView.network l.view ≡ g.V.RoadView.network l.fn.view;
  starts : g.V.RoadView.starts l.view ≡ g.V.RoadView.starts l.fn.view + 1;
  least : IsLeastSoFar l.grain l.listing.items l.fn.node.0 (hops_from (g.V.RoadView.network l.fn.view) l.fn.node.0) (g.V.RoadView.left l.view) l.first;
  tail : label_in l.listing.items l.fn.node.0 ≡ l.tail;
}

abbrev pub decreases-hops : goal.decreases-hops
decreases-hops g l = length (g.V.RoadView.left l.view)
