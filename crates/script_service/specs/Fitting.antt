-- Which replies and which journal fit a script: phase by phase, of a phase actor by actor, of an actor in order; each reply is right after as many entries of
-- the journal as it says, and the entries are those of the accepted replies.
use Rattle.std.specs.Prelude.{◌≡◌, ◌<◌, ◌≤◌, ℕ, zero, suc, ◌==◌, true, List, [], ◌∷◌, ◌++◌, map, filter, length, take, All, AllPairs, Contains}
use Rattle.std.specs.List.{flat_map}
use Rattle.traffic_core.specs.declared.entry.Entry.{Entry}
use Rattle.traffic_core.specs.Lands.{Land}
use Rattle.script_text.specs.declared.script.Line.{Line}
use Rattle.script_text.specs.declared.script.Script.{Script}
use Rattle.script_service.specs.Answering.{Answered, lines, joined, own_of, is_accepted, accepted}
use Rattle.script_service.specs.Replying.{IsRightAfter}

-- the numbers below so many, in order
abbrev pub numbers_below : ℕ → List ℕ
numbers_below zero = []
numbers_below (suc n) = numbers_below n ++ n ∷ []

-- the lines of one actor
abbrev pub lines_of : ℕ → List Line → List Line
lines_of actor lines = filter (λ (line : Line). line.actor == actor) lines

-- of a phase, actor by actor
abbrev pub by_actor : ℕ → List Line → List Line
by_actor actors phase = flat_map (λ actor. lines_of actor phase) (numbers_below actors)

-- a reply speaks of at least so many entries, and of more where it has one of its own
pub record IsPast (count : ℕ) (a : Answered) : Type 0 where
  pub least : count ≤ a.at
  pub own : is_accepted a.reply ≡ true → count < a.at

-- of one actor, the later reply is past the earlier
abbrev pub SeesOwn : Answered → Answered → Type 0
SeesOwn b a = b.line.actor ≡ a.line.actor → IsPast b.at a

-- each reply is past all of the phases before it, and past its own actor's in its phase
pub record SeesInOrder (phases : List (List Answered)) (count : ℕ) : Type 0 where
  pub within : All (λ (a : Answered). a.at ≤ count) (joined phases)
  pub told : AllPairs (λ before after. All (λ (b : Answered). All (IsPast b.at) after) before) phases
  pub seen : All (AllPairs SeesOwn) phases

-- some accepted reply has entry k
abbrev pub IsGiven : List Answered → ℕ → Type 0
IsGiven answered k = (a : Answered) × Contains answered a × (is_accepted a.reply ≡ true) × (a.at ≡ k)

-- the entries of the journal are as many as the accepted replies, each that of one of them, and no more than there may be
pub record IsJournalOf (capacity : ℕ) (answered : List Answered) (journal : List Entry) : Type 0 where
  pub count : length journal ≡ accepted answered
  pub within : length journal ≤ capacity
  pub each : (k : ℕ) → 1 ≤ k → k ≤ length journal → IsGiven answered k

-- these phases of replies, with this journal, answer the first phases of a script
pub record Begins (land : Land) (script : Script) (phases : List (List Answered)) (journal : List Entry) (count : ℕ) : Type 0 where
  pub in_order : map lines phases ≡ map (by_actor (length script.actors)) (take count script.phases)
  pub sees : SeesInOrder phases (accepted (joined phases))
  pub right : (x z : List Answered) (a : Answered) → joined phases ≡ x ++ a ∷ z →
      IsRightAfter land script.capacity journal (own_of a.line.actor x) a
  pub journal_is : IsJournalOf script.capacity (joined phases) journal
