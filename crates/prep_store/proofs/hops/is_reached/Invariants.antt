use Rattle.std.proofs.Common.{◌≡◌, ◌+◌, length}
use Rattle.walk_rules.specs.Walks.{hops_from}
use Rattle.prep_store.specs.Steps.{IsStillSought}
use Rattle.prep_store.proofs.hops.is_reached.Given as goal

-- no hop so far gives the label
abbrev pub invariant-hops : goal.invariant-hops
invariant-hops g l = record {
  same : g.W.RoadView.network l.back ≡ g.W.RoadView.network l.fn.back;
  starts : g.W.RoadView.starts l.back ≡ g.W.RoadView.starts l.fn.back + 1;
  sought : IsStillSought l.grain l.listing.items l.item.label (hops_from (g.W.RoadView.network l.fn.back) l.item.node.0) (g.W.RoadView.left l.back);
}

abbrev pub decreases-hops : goal.decreases-hops
decreases-hops g l = length (g.W.RoadView.left l.back)
