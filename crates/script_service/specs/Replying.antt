-- Which replies to a command are right, after as many entries of the journal as the reply says, and behind what its actor was answered before.
use Rattle.std.specs.Prelude.{◌≡◌, ℕ, ◌-◌, ◌<◌, ◌≤◌, ◌==◌, Bool, false, List, length, filter, take, slice_get, Option, Some, None}
use Rattle.std.specs.List.{last_or}
use Rattle.gh_base.specs.declared.edges.DirEdge.{DirEdge}
use Rattle.gh_base.specs.declared.query.Place.{Place}
use Rattle.gh_base.specs.declared.query.RouteAnswer.{RouteAnswer}
use Rattle.gh_base.specs.declared.query.RouteAnswer.TheVariants as answer
use Rattle.weighting.specs.Roads.{opening_of}
use Rattle.landmark_prep.specs.Preparations.{Preparation}
use Rattle.traffic_core.specs.declared.entry.Entry.{Entry}
use Rattle.traffic_core.specs.declared.entry.What.{What}
use Rattle.traffic_core.specs.declared.entry.What.TheVariants as what
use Rattle.traffic_core.specs.Lands.{Land}
use Rattle.traffic_core.specs.Answers.{Asked, IsRightAnswer}
use Rattle.traffic_core.specs.History.{limit_after, Covers, IsFirstBelow, IsGuide, limit_in}
use Rattle.traffic_core.specs.Trips.{along}
use Rattle.traffic_core.specs.Truth.{IsPrepAt, IsNoPrepAt}
use Rattle.script_text.specs.declared.script.Command.{Command}
use Rattle.script_text.specs.declared.script.Command.TheVariants as command
use Rattle.script_text.specs.declared.reply.Reply.{Reply}
use Rattle.script_text.specs.declared.reply.Reply.TheVariants as reply
use Rattle.route_sessions.specs.declared.session.ModelReply.{ModelReply}
use Rattle.route_sessions.specs.declared.session.ModelReply.TheVariants as taken
use Rattle.route_sessions.specs.Sessions.{InForce, reply_to}
use Rattle.script_service.specs.Answering.{Answered, rule_after}

-- what is printed of an answer
abbrev pub reply_of : RouteAnswer → Reply
reply_of (answer.NoNode id) = reply.NoNode id
reply_of (answer.NoSnap point) = reply.NoSnap point
reply_of (answer.NoRoute settled) = reply.NoRoute settled
reply_of (answer.WeightOverflow weight) = reply.Overflow weight
reply_of (answer.Walk weight mm settled hops) = reply.Route weight mm settled hops
reply_of (answer.Labelled weight labels) = reply.Labels weight labels

-- what is printed where a model is taken, or refused
abbrev pub reply_of_model : ModelReply → Reply
reply_of_model taken.Taken = reply.Taken
reply_of_model (taken.BadJson byte kind) = reply.BadJson byte kind
reply_of_model (taken.BadModel place kind) = reply.BadModel place kind
reply_of_model (taken.Speeds offender) = reply.Speeds offender

-- what a query asks under the rule in force
abbrev pub asks_under : InForce → Place → Place → Bool → Asked
asks_under rule start target labels = record { profile = rule.profile; model = rule.model; from = start; to = target; labels = labels }

-- what is printed of a right answer at these limits, where this preparation guides the search
pub record IsRightRoute (land : Land) (limits : DirEdge → ℕ) (guide : Option Preparation) (asks : Asked) (said : Reply) : Type 0 where
  pub answer : RouteAnswer
  pub right : IsRightAnswer land limits guide asks answer
  pub printed : said ≡ reply_of answer

-- a right answer after a history: the preparation in the slot of the profile guides it
pub record IsRightQuery (land : Land) (h : List Entry) (asks : Asked) (said : Reply) : Type 0 where
  pub guide : Option Preparation
  pub guide_is : IsGuide land.graph h asks.profile guide
  pub route : IsRightRoute land (limit_after land.graph h) guide asks said

-- the first entries of the journal that a reply speaks of, and those before its own
abbrev pub seen_by : List Entry → Answered → List Entry
seen_by journal a = take a.at journal

abbrev pub before_own : List Entry → Answered → List Entry
before_own journal a = take (a.at - 1) journal

-- the last entry that the reply speaks of is its own: this change by its command
abbrev pub IsEntry : List Entry → Answered → What → Type 0
IsEntry journal a change = (1 ≤ a.at) × (slice_get journal (a.at - 1) ≡ Some (record { actor = a.line.actor; number = a.line.number; what = change }))

module _ (land : Land) (capacity : ℕ) (journal : List Entry) (a : Answered) where
  -- the limit of a directed edge as the reply sees it, and before its own entry
  abbrev pub limit_seen : DirEdge → ℕ
  limit_seen by = limit_after land.graph (seen_by journal a) by

  abbrev pub limit_before : DirEdge → ℕ
  limit_before by = limit_after land.graph (before_own journal a) by

  -- the edge is there, and something else holds
  abbrev pub OnEdge : DirEdge → Type 0 → Type 0
  OnEdge by Holds = (by.edge.0 < length land.graph.edges) × Holds

  -- replies to `lower`
  abbrev pub SaysLower : DirEdge → ℕ → Reply → Type 0
  SaysLower by speed reply.NoSuchEdge = length land.graph.edges ≤ by.edge.0
  SaysLower by speed (reply.NotLower now) = OnEdge by ((now ≡ limit_seen by) × (now ≤ speed))
  SaysLower by speed reply.JournalFull = OnEdge by ((speed < limit_seen by) × (a.at ≡ capacity))
  SaysLower by speed reply.Lowered = OnEdge by (IsEntry journal a (what.Lower by speed) × (speed < limit_before by))
  SaysLower by speed other = ⊥

  -- replies to `restore`
  abbrev pub SaysRestore : DirEdge → ℕ → Reply → Type 0
  SaysRestore by speed reply.NoSuchEdge = length land.graph.edges ≤ by.edge.0
  SaysRestore by speed (reply.NotHigher now) = OnEdge by ((now ≡ limit_seen by) × (speed ≤ now))
  SaysRestore by speed (reply.OverBase base) = OnEdge by ((limit_seen by < speed) × (base ≡ opening_of land.graph by) × (base < speed))
  SaysRestore by speed reply.JournalFull = OnEdge by ((limit_seen by < speed) × (speed ≤ opening_of land.graph by) × (a.at ≡ capacity))
  SaysRestore by speed reply.Restored = OnEdge by (IsEntry journal a (what.Restore by speed) × (limit_before by < speed) × (speed ≤ opening_of land.graph by))
  SaysRestore by speed other = ⊥

  -- replies to `prepare`
  abbrev pub SaysPrepare : ℕ → ℕ → Reply → Type 0
  SaysPrepare profile count reply.NoLandmark = IsNoPrepAt land (seen_by journal a) profile
  SaysPrepare profile count (reply.Prepared landmarks) =
      (prep : Preparation) × IsPrepAt land (seen_by journal a) profile count prep × (landmarks ≡ length prep.landmarks)
  SaysPrepare profile count other = ⊥

  -- replies to `publish`, where this preparation is held
  abbrev pub SaysPublish : Option Preparation → Reply → Type 0
  SaysPublish None said = said ≡ reply.Nothing
  SaysPublish (Some prep) (reply.NotInForce by earlier now) =
      (earlier ≡ limit_in prep.snapshot by) × (now ≡ limit_seen by) × IsFirstBelow land.graph limit_seen prep.snapshot by
  SaysPublish (Some prep) reply.JournalFull = Covers land.graph (seen_by journal a) prep × (a.at ≡ capacity)
  SaysPublish (Some prep) reply.Published = IsEntry journal a (what.Publish prep) × Covers land.graph (before_own journal a) prep
  SaysPublish (Some prep) other = ⊥

-- what settles which preparation of a profile an actor holds: that one was made, or that it was published
abbrev pub settles_by : ℕ → Command → Reply → Bool
settles_by profile (command.Prepare p count) (reply.Prepared landmarks) = p == profile
settles_by profile (command.Publish p) reply.Published = p == profile
settles_by profile command said = false

abbrev pub settles : ℕ → Answered → Bool
settles profile a = settles_by profile a.line.command a.reply

-- the last of an actor's replies that settles it
abbrev pub last_settling : ℕ → List Answered → Option Answered
last_settling profile own = last_or None (filter (settles profile) own)

-- what is held behind that reply: the preparation that was made then, and none where it was published, or there was no such reply
abbrev pub IsLeft : Land → List Entry → Answered → Command → Option Preparation → Type 0
IsLeft land journal a (command.Prepare profile count) held = (prep : Preparation) × (held ≡ Some prep) × IsPrepAt land (seen_by journal a) profile count prep
IsLeft land journal a other held = held ≡ None

abbrev pub IsHeldAfter : Land → List Entry → Option Answered → Option Preparation → Type 0
IsHeldAfter land journal None held = held ≡ None
IsHeldAfter land journal (Some a) held = IsLeft land journal a a.line.command held

-- the preparation of a profile that an actor holds behind its replies
abbrev pub IsHeld : Land → List Entry → ℕ → List Answered → Option Preparation → Type 0
IsHeld land journal profile own held = IsHeldAfter land journal (last_settling profile own) held

-- a right reply to `publish`: by what is held
pub record IsRightPublish (land : Land) (capacity : ℕ) (journal : List Entry) (own : List Answered) (a : Answered) (profile : ℕ) : Type 0 where
  pub held : Option Preparation
  pub held_is : IsHeld land journal profile own held
  pub says : SaysPublish land capacity journal a held a.reply

-- by the command
abbrev pub IsRightTo : Land → ℕ → List Entry → List Answered → Answered → Command → Type 0
IsRightTo land capacity journal own a (command.Model profile text) = a.reply ≡ reply_of_model (reply_to land.profiles profile text)
IsRightTo land capacity journal own a (command.Route start target labels) =
    IsRightQuery land (seen_by journal a) (asks_under (rule_after land.profiles own) start target labels) a.reply
IsRightTo land capacity journal own a (command.Lower edge reverse speed) = SaysLower land capacity journal a (along (record { 0 = edge }) reverse) speed a.reply
IsRightTo land capacity journal own a (command.Restore edge reverse speed) = SaysRestore land capacity journal a (along (record { 0 = edge }) reverse) speed a.reply
IsRightTo land capacity journal own a (command.Prepare profile count) = SaysPrepare land capacity journal a profile count a.reply
IsRightTo land capacity journal own a (command.Publish profile) = IsRightPublish land capacity journal own a profile

-- the reply is right after the first entries of the journal that it speaks of, behind what its actor was answered before
abbrev pub IsRightAfter : Land → ℕ → List Entry → List Answered → Answered → Type 0
IsRightAfter land capacity journal own a = IsRightTo land capacity journal own a a.line.command
