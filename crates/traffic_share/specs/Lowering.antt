-- What the replies to a lowering say, each at the seat's list when the call returns.
use Rattle.std.specs.Prelude.{◌≡◌, ℕ, ◌<◌, ◌≤◌, length}
use Rattle.gh_base.specs.declared.edges.DirEdge.{DirEdge}
use Rattle.base_graph.specs.Graphs.{Graph}
use Rattle.traffic_core.specs.declared.entry.Entry.{Entry}
use Rattle.traffic_core.specs.declared.entry.What.TheVariants.{Lower}
use Rattle.traffic_core.specs.History.{limit_after}
use Rattle.traffic_share.specs.declared.replies.LowerReply.{LowerReply}
use Rattle.traffic_share.specs.declared.replies.LowerReply.TheVariants.{NoSuchEdge, NotLower, JournalFull, Lowered}
use Rattle.traffic_share.specs.Seats.{Place, entry_of, GrewWithout, Refuses, IsFull, Accepts}

-- a call with a number lowers a directed edge to a speed, and makes of a seat another
module _ (graph : Graph) (number : ℕ) (by : DirEdge) (speed : ℕ) (before after : Place) where
  abbrev pub lowering : Entry
  lowering = entry_of before number (Lower by speed)

  -- no such edge; or there is one, and then the speed isn't below its limit; or there is no room; or the entry is the last
  abbrev pub Lowers : LowerReply → Type 0
  Lowers (NoSuchEdge edge) =
      (edge ≡ by.edge.0) × (length graph.edges ≤ by.edge.0) × GrewWithout lowering before.entries after.entries
  Lowers (NotLower at now) =
      (by.edge.0 < length graph.edges) × Refuses lowering before.entries after.entries at
      × (now ≡ limit_after graph after.entries by) × (now ≤ speed)
  Lowers (JournalFull at) =
      (by.edge.0 < length graph.edges) × Refuses lowering before.entries after.entries at
      × IsFull after × (speed < limit_after graph after.entries by)
  Lowers (Lowered at) =
      (by.edge.0 < length graph.edges)
      × ((accepted : Accepts lowering before.entries after.entries at) × (speed < limit_after graph accepted.front by))
