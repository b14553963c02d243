-- What the line of a reply tells.
use Rattle.std.specs.Prelude.{◌≡◌, ◌≢◌, ℕ, ℤ, ◌<◌, ◌^◌, List, [], ◌∷◌, Option, Some, None, map, All, nat_abs}
use Rattle.gh_base.specs.declared.edges.DirEdge.{DirEdge}
use Rattle.script_text.specs.declared.reply.Reply.{Reply}
use Rattle.script_text.specs.declared.reply.Reply.TheVariants as reply
use Rattle.script_text.specs.Replies.{reply_line}

-- the reply without its hops, and over which directed edges these are; where they lead and what they weigh isn't told
abbrev pub told : Reply → Reply × List DirEdge
told (reply.Route weight mm settled hops) = (reply.Route weight mm settled [], map (λ hop. hop.by) hops)
told answer = (answer, [])

-- a number of at most 128 bits
abbrev pub IsWide : ℕ → Type 0
IsWide n = n < 2 ^ 128

abbrev pub IsWideLabel : Option ℕ → Type 0
IsWideLabel None = Unit {0}
IsWideLabel (Some n) = IsWide n

-- all numbers of a reply are so
abbrev pub HasWideNumbers : Reply → Type 0
HasWideNumbers (reply.Route weight mm settled hops) = IsWide weight × IsWide mm × IsWide settled × All (λ hop. IsWide hop.by.edge.0) hops
HasWideNumbers (reply.Labels weight labels) = IsWide weight × All IsWideLabel labels
HasWideNumbers (reply.NoRoute settled) = IsWide settled
HasWideNumbers (reply.Overflow weight) = IsWide weight
HasWideNumbers (reply.NoSnap point) = IsWide point
HasWideNumbers (reply.NoNode id) = IsWide (nat_abs id)
HasWideNumbers (reply.BadJson byte kind) = IsWide byte
HasWideNumbers (reply.BadModel place kind) = IsWide place.item × IsWide place.byte
HasWideNumbers (reply.Speeds s) = IsWide s.item × IsWide s.value
HasWideNumbers (reply.NotLower now) = IsWide now
HasWideNumbers (reply.NotHigher now) = IsWide now
HasWideNumbers (reply.OverBase base) = IsWide base
HasWideNumbers (reply.Prepared landmarks) = IsWide landmarks
HasWideNumbers (reply.NotInForce edge before now) = IsWide edge.edge.0 × IsWide before × IsWide now
HasWideNumbers answer = Unit {0}

-- a reply to an actor's command by number, of so many entries
pub record Answer : Type 0 where
  pub name : List ℕ
  pub number : ℕ
  pub entries : ℕ
  pub reply : Reply

abbrev pub line_of : Answer → List ℕ
line_of a = reply_line a.name a.number a.entries a.reply

-- the actor's name has no space
pub record IsTellable (a : Answer) : Type 0 where
  pub name : All (λ b. b ≢ 32) a.name
  pub number : IsWide a.number
  pub entries : IsWide a.entries
  pub reply : HasWideNumbers a.reply

-- both tell the same
pub record AreAlike (a b : Answer) : Type 0 where
  pub name : a.name ≡ b.name
  pub number : a.number ≡ b.number
  pub entries : a.entries ≡ b.entries
  pub reply : told a.reply ≡ told b.reply

-- where two lines are the same, so are their actor, number, number of entries and reply
abbrev pub LinesTellReplies : Type 0
LinesTellReplies = (a b : Answer) → IsTellable a → IsTellable b → line_of a ≡ line_of b → AreAlike a b
