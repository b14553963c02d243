use Rattle.std.proofs.Common.{◌≡◌, take, Contains, length}
use Rattle.prep_store.specs.declared.item.Item.{Item}
use Rattle.prep_store.specs.Evidence.{IsClosedAt}
use Rattle.prep_store.proofs.lists.find_open.Given as goal

-- no hop of the items so far is open
abbrev pub invariant-items : goal.invariant-items
invariant-items g l =
    let network = g.V.RoadView.network l.view in
    record {
      same : g.V.RoadView.network l.ahead ≡ network;
      starts : g.V.RoadView.starts l.ahead ≡ l.place;
      items : l.items ≡ l.listing.items;
      end : l.place-end ≡ length l.listing.items;
      closed : (item : Item) → Contains (take l.place l.listing.items) item → IsClosedAt network l.grain l.listing.items item.node.0;
    }
