-- How far a phase has come, and what an actor knows. Only the bodies need these.
use Rattle.std.specs.Prelude.{◌≡◌, ℕ, ◌+◌, ◌<◌, ◌≤◌, true, List, [], ◌∷◌, ◌++◌, length, Option, None, All, AllPairs, slice_index_or}
use Rattle.landmark_prep.specs.Preparations.{Preparation}
use Rattle.traffic_core.specs.declared.entry.Entry.{Entry}
use Rattle.traffic_core.specs.Lands.{Land}
use Rattle.script_text.specs.declared.script.Line.{Line}
use Rattle.route_sessions.specs.Sessions.{InForce}
use Rattle.traffic_share.specs.Seats.{StartsWith}
use Rattle.script_service.specs.Answering.{Answered, own_of, is_accepted, accepted, rule_after}
use Rattle.script_service.specs.Replying.{IsRightAfter, IsHeld}
use Rattle.script_service.specs.Fitting.{IsPast, SeesOwn, IsGiven}

-- what an actor keeps from one reply to the next: the rule in force, and the preparation of each profile that it holds
pub record Knowing : Type 0 where
  pub rule : InForce
  pub held : List (Option Preparation)

-- that is what its replies say
pub record Knows (land : Land) (journal : List Entry) (own : List Answered) (k : Knowing) : Type 0 where
  pub rule_is : k.rule ≡ rule_after land.profiles own
  pub held_is : (profile : ℕ) → profile < length land.profiles → IsHeld land journal profile own (slice_index_or k.held profile None)
  pub long : length k.held ≡ length land.profiles

-- one command was answered: the list grew from xs to ys, and the reply speaks of ys; the actor knew what is before, and knows what is after
pub record Follows (land : Land) (capacity : ℕ) (before after : Knowing) (xs ys : List Entry) (line : Line) (a : Answered) : Type 0 where
  pub line_is : a.line ≡ line
  pub starts : StartsWith ys xs
  pub at : a.at ≡ length ys
  pub new : is_accepted a.reply ≡ true → length xs < length ys
  pub right : (own : List Answered) → Knows land ys own before → IsRightAfter land capacity ys own a
  pub next : (own : List Answered) → Knows land ys own before → Knows land ys (own ++ a ∷ []) after

-- each is right, behind these earlier replies
abbrev pub AreRight : Land → ℕ → List Entry → List Answered → List Answered → Type 0
AreRight land capacity journal past [] = Unit {0}
AreRight land capacity journal past (a ∷ more) =
    IsRightAfter land capacity journal (own_of a.line.actor past) a × AreRight land capacity journal (past ++ a ∷ []) more

-- replies of one phase, behind `past`, where the list was `low` long as the phase began, and is `entries` now
pub record Goes (land : Land) (capacity : ℕ) (past : List Answered) (low : ℕ) (entries : List Entry) (part : List Answered) : Type 0 where
  pub told : All (IsPast low) part
  pub within : All (λ (a : Answered). a.at ≤ length entries) part
  pub seen : AllPairs SeesOwn part
  pub right : AreRight land capacity entries past part

-- the places above low, up to high, are those of the accepted replies
pub record Fills (part : List Answered) (low high : ℕ) : Type 0 where
  pub count : high ≡ low + accepted part
  pub each : (k : ℕ) → low < k → k ≤ high → IsGiven part k

-- a phase that began with `journal` was answered, and the list is `entries` now
pub record Serves (land : Land) (capacity : ℕ) (past : List Answered) (journal entries : List Entry) (part : List Answered) : Type 0 where
  pub starts : StartsWith entries journal
  pub goes : Goes land capacity past (length journal) entries part
  pub fills : Fills part (length journal) (length entries)
