-- What the replies to a restoring say, each at the seat's list when the call returns.
use Rattle.std.specs.Prelude.{◌≡◌, ℕ, ◌<◌, ◌≤◌, length}
use Rattle.gh_base.specs.declared.edges.DirEdge.{DirEdge}
use Rattle.base_graph.specs.Graphs.{Graph}
use Rattle.weighting.specs.Roads.{opening_of}
use Rattle.traffic_core.specs.declared.entry.Entry.{Entry}
use Rattle.traffic_core.specs.declared.entry.What.TheVariants.{Restore}
use Rattle.traffic_core.specs.History.{limit_after}
use Rattle.traffic_share.specs.declared.replies.RestoreReply.{RestoreReply}
use Rattle.traffic_share.specs.declared.replies.RestoreReply.TheVariants.{NoSuchEdge, NotHigher, OverBase, JournalFull, Restored}
use Rattle.traffic_share.specs.Seats.{Place, entry_of, GrewWithout, Refuses, IsFull, Accepts}

-- a call with a number restores a directed edge to a speed, and makes of a seat another
module _ (graph : Graph) (number : ℕ) (by : DirEdge) (speed : ℕ) (before after : Place) where
  abbrev pub restoring : Entry
  restoring = entry_of before number (Restore by speed)

  -- no such edge; or there is one, and then the speed isn't above its limit; or it is above the one that it opened with;
  -- or there is no room; or the entry is the last
  abbrev pub Restores : RestoreReply → Type 0
  Restores (NoSuchEdge edge) =
      (edge ≡ by.edge.0) × (length graph.edges ≤ by.edge.0) × GrewWithout restoring before.entries after.entries
  Restores (NotHigher at now) =
      (by.edge.0 < length graph.edges) × Refuses restoring before.entries after.entries at
      × (now ≡ limit_after graph after.entries by) × (speed ≤ now)
  Restores (OverBase at base) =
      (by.edge.0 < length graph.edges) × Refuses restoring before.entries after.entries at
      × (limit_after graph after.entries by < speed) × (base ≡ opening_of graph by) × (base < speed)
  Restores (JournalFull at) =
      (by.edge.0 < length graph.edges) × Refuses restoring before.entries after.entries at
      × IsFull after × (limit_after graph after.entries by < speed) × (speed ≤ opening_of graph by)
  Restores (Restored at) =
      (by.edge.0 < length graph.edges) × (speed ≤ opening_of graph by)
      × ((accepted : Accepts restoring before.entries after.entries at) × (limit_after graph accepted.front by < speed))
