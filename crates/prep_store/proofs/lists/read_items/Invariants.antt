use Rattle.std.proofs.Common.{◌≡◌, ◌≤◌, [], length}
use Rattle.gh_base.specs.Networks.{Network, LeadsToNodes}
use Rattle.walk_rules.specs.Walks.{AreTurned}
use Rattle.prep_store.specs.Evidence.{MayAllFollow}
use Rattle.prep_store.specs.Stores.{items_text}
use Rattle.prep_store.specs.Readings.{place, Takes}
use Rattle.prep_store.proofs.lists.read_items.Given as goal

-- the items so far were taken, and may follow one another
abbrev pub invariant-items : goal.invariant-items
invariant-items g l =
    let seen = place g.S.Source.left g.S.Source.faults g.S.Source.mark in
    record {
      taken : Takes (seen l.fn.source l.fn.at) (seen l.source l.at) (items_text l.listing.items);
      so_far : length l.listing.items ≡ l.place;
      nodes : l.listing.nodes ≡ l.fn.listing.nodes;
      order : (network : Network) → AreTurned network (g.W.RoadView.network l.back) → LeadsToNodes network → MayAllFollow network l.grain l.landmark.0 [] l.listing.items;
      same : g.W.RoadView.network l.behind ≡ g.W.RoadView.network l.back;
      starts : g.W.RoadView.starts l.behind ≤ l.place;
    }
