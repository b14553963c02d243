-- What the replies to a publication say, each at the seat's list when the call returns.
use Rattle.std.specs.Prelude.{◌≡◌, ℕ}
use Rattle.base_graph.specs.Graphs.{Graph}
use Rattle.landmark_prep.specs.Preparations.{Preparation}
use Rattle.traffic_core.specs.declared.entry.Entry.{Entry}
use Rattle.traffic_core.specs.declared.entry.What.TheVariants.{Publish}
use Rattle.traffic_core.specs.History.{limit_in, limit_after, Covers, IsFirstBelow}
use Rattle.traffic_share.specs.declared.replies.PublishReply.{PublishReply}
use Rattle.traffic_share.specs.declared.replies.PublishReply.TheVariants.{NotInForce, JournalFull, Published}
use Rattle.traffic_share.specs.Seats.{Place, entry_of, Refuses, IsFull, Accepts}

-- a call with a number publishes a preparation, and makes of a seat another
module _ (graph : Graph) (number : ℕ) (prep : Preparation) (before after : Place) where
  abbrev pub publication : Entry
  publication = entry_of before number (Publish prep)

  -- a snapshot limit is below the present one, at the first such directed edge; or there is no room; or the entry is the last
  abbrev pub Publishes : PublishReply → Type 0
  Publishes (NotInForce at by then now) =
      Refuses publication before.entries after.entries at × IsFirstBelow graph (limit_after graph after.entries) prep.snapshot by
      × (then ≡ limit_in prep.snapshot by) × (now ≡ limit_after graph after.entries by)
  Publishes (JournalFull at) =
      Refuses publication before.entries after.entries at × IsFull after × Covers graph after.entries prep
  Publishes (Published at) =
      (accepted : Accepts publication before.entries after.entries at) × Covers graph accepted.front prep
