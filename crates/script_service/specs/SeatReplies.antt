-- What is told of a reply of a seat, and what an actor keeps then. Only the bodies need these.
use Rattle.std.specs.Prelude.{◌≡◌, ℕ, ◌≤◌, List, Option, None, length, slice_set}
use Rattle.landmark_prep.specs.Preparations.{Preparation}
use Rattle.traffic_core.specs.Lands.{Land}
use Rattle.script_text.specs.declared.script.Line.{Line}
use Rattle.script_text.specs.declared.reply.Reply.TheVariants as reply
use Rattle.traffic_share.specs.Seats.{Place, StartsWith}
use Rattle.traffic_share.specs.declared.replies.LowerReply.{LowerReply}
use Rattle.traffic_share.specs.declared.replies.LowerReply.TheVariants as lower
use Rattle.traffic_share.specs.declared.replies.RestoreReply.{RestoreReply}
use Rattle.traffic_share.specs.declared.replies.RestoreReply.TheVariants as restore
use Rattle.traffic_share.specs.declared.replies.PublishReply.{PublishReply}
use Rattle.traffic_share.specs.declared.replies.PublishReply.TheVariants as publish
use Rattle.script_service.specs.declared.told.Told.{Told}
use Rattle.script_service.specs.Going.{Knowing, Follows}
use Rattle.script_service.specs.Telling.{answered}

-- what is told of a reply to a lowering, where the list has so many entries
abbrev pub told_of_lower : ℕ → LowerReply → Told
told_of_lower len (lower.NoSuchEdge edge) = record { at = len; reply = reply.NoSuchEdge }
told_of_lower len (lower.NotLower at now) = record { at = at; reply = reply.NotLower now }
told_of_lower len (lower.JournalFull at) = record { at = at; reply = reply.JournalFull }
told_of_lower len (lower.Lowered at) = record { at = at; reply = reply.Lowered }

-- of a reply to a restoring
abbrev pub told_of_restore : ℕ → RestoreReply → Told
told_of_restore len (restore.NoSuchEdge edge) = record { at = len; reply = reply.NoSuchEdge }
told_of_restore len (restore.NotHigher at now) = record { at = at; reply = reply.NotHigher now }
told_of_restore len (restore.OverBase at base) = record { at = at; reply = reply.OverBase base }
told_of_restore len (restore.JournalFull at) = record { at = at; reply = reply.JournalFull }
told_of_restore len (restore.Restored at) = record { at = at; reply = reply.Restored }

-- of a reply to a publication
abbrev pub told_of_publish : PublishReply → Told
told_of_publish (publish.NotInForce at by earlier now) = record { at = at; reply = reply.NotInForce by earlier now }
told_of_publish (publish.JournalFull at) = record { at = at; reply = reply.JournalFull }
told_of_publish (publish.Published at) = record { at = at; reply = reply.Published }

-- what is held of each profile behind a publication of one: what was published isn't held any more
abbrev pub left_by : List (Option Preparation) → ℕ → PublishReply → List (Option Preparation)
left_by held profile (publish.NotInForce at by earlier now) = held
left_by held profile (publish.JournalFull at) = held
left_by held profile (publish.Published at) = slice_set held profile None

-- a seat was given no number above this, and its list begins with what it was
pub record IsSeatAfter (number : ℕ) (before after : Place) : Type 0 where
  pub cells : after.cells ≡ before.cells
  pub actor : after.actor ≡ before.actor
  pub last : after.last ≤ number
  pub starts : StartsWith after.entries before.entries

-- a line was answered, which made of a seat another, and its actor knew what is before, and knows what is after
abbrev pub Answers : Land → Place → Place → Knowing → Knowing → Line → Told → Type 0
Answers land seat now before after line told = Follows land (length seat.cells) before after seat.entries now.entries line (answered line told)
