-- Actors with seats at one log.
use Rattle.std.specs.Prelude.{◌≡◌, ℕ, ◌+◌, ◌<◌, ◌≤◌, false, Bool, List, [], ◌∷◌, ◌++◌, All, AllPairs, filter, length, map, slice_index_or, take}
use Rattle.std.specs.List.{flat_map}
use Rattle.traffic_core.specs.declared.entry.Entry.{Entry}
use Rattle.traffic_core.specs.Lands.{Land}
use Rattle.script_text.specs.declared.script.Line.{Line}
use Rattle.script_text.specs.declared.script.Command.TheVariants as command
use Rattle.script_text.specs.Scripts.{IsLine}
use Rattle.traffic_share.specs.Seats.{Place, StartsWith}
use Rattle.script_service.specs.declared.actor.Heard.{Heard}
use Rattle.script_service.specs.Telling.{answered}
use Rattle.script_service.specs.Answering.{Answered, lines, own_of, is_accepted}
use Rattle.script_service.specs.Fitting.{lines_of}
use Rattle.script_service.specs.Going.{Knowing, Knows, Goes, Follows, Serves}

-- an actor: its seat, what it knows, what it was told in this phase, and whether its memory ran out
pub record Acting : Type 0 where
  pub seat : Place
  pub knows : Knowing
  pub part : List Heard
  pub failed : Bool

-- the line of a phase at a place
abbrev pub line_at : List Line → ℕ → Line
line_at phase place = slice_index_or phase place (record { actor = 0; number = 0; command = command.Publish 0 })

-- its line, with what it was told
abbrev pub heard_in : List Line → Heard → Answered
heard_in phase heard = answered (line_at phase heard.place) heard.told

-- what an actor was told in a phase
abbrev pub part_in : List Line → Acting → List Answered
part_in phase a = map (heard_in phase) a.part

-- what all actors were told, actor by actor
abbrev pub parts_in : List Line → List Acting → List Answered
parts_in phase actors = flat_map (part_in phase) actors

-- how many of these tell of an entry
abbrev pub accepted_of : List Heard → ℕ
accepted_of part = length (filter (λ (h : Heard). is_accepted h.told.reply) part)

abbrev pub accepted_by : List Acting → ℕ
accepted_by [] = 0
accepted_by (a ∷ actors) = accepted_of a.part + accepted_by actors

-- a later line of one actor has a greater number
abbrev pub Grows : Line → Line → Type 0
Grows b a = b.actor ≡ a.actor → b.number < a.number

-- lines of which each actor can be asked: there are so many profiles and actors
pub record CanBeAsked (profiles actors : ℕ) (phase : List Line) : Type 0 where
  pub each : All (IsLine profiles actors) phase
  pub grow : AllPairs Grows phase

-- one line more was answered
pub record HasAnswered (land : Land) (phase : List Line) (place : ℕ) (before after : Acting) : Type 0 where
  pub heard : Heard
  pub place_is : heard.place ≡ place
  pub part : after.part ≡ before.part ++ heard ∷ []
  pub last : after.seat.last ≤ (line_at phase place).number
  pub follows : Follows land (length before.seat.cells) before.knows after.knows before.seat.entries after.seat.entries (line_at phase place) (heard_in phase heard)

-- an actor's replies behind `past`, and what it knows then
pub record Acts (land : Land) (phase : List Line) (past : List Answered) (before after : Acting) : Type 0 where
  pub goes : Goes land (length before.seat.cells) past (length before.seat.entries) after.seat.entries (part_in phase after)
  pub knows : Knows land after.seat.entries (own_of before.seat.actor (past ++ part_in phase after)) after.knows

-- a past that speaks of no more than these entries, behind which the actor knows what it does
pub record IsPastOf (land : Land) (past : List Answered) (a : Acting) : Type 0 where
  pub within : All (λ (b : Answered). b.at ≤ length a.seat.entries) past
  pub knows : Knows land a.seat.entries (own_of a.seat.actor past) a.knows

-- the actor's seat was given no number as great as these lines'
abbrev pub Awaits : List Line → Acting → Type 0
Awaits phase a = All (λ (line : Line). line.actor ≡ a.seat.actor → a.seat.last < line.number) phase

-- a line that stands behind the first lines of a phase has a greater number than the seat was given
abbrev pub StaysBelow : List Line → ℕ → Acting → Acting → Type 0
StaysBelow phase count before after =
    (line : Line) → line.actor ≡ before.seat.actor → before.seat.last < line.number → ((k : ℕ) (d : Line) → k < count → Grows (slice_index_or phase k d) line) → after.seat.last < line.number

-- the actor sits where it sat, its list begins with what it was, and what it was told is of lines of the phase
pub record IsStill (phase : List Line) (before after : Acting) : Type 0 where
  pub cells : after.seat.cells ≡ before.seat.cells
  pub actor : after.seat.actor ≡ before.seat.actor
  pub starts : StartsWith after.seat.entries before.seat.entries
  pub there : All (λ (h : Heard). h.place < length phase) after.part

-- the line at a place is answered, if it is the actor's
pub record HasPassed (land : Land) (phase : List Line) (place : ℕ) (before after : Acting) : Type 0 where
  pub own : (line_at phase place).actor ≡ before.seat.actor → HasAnswered land phase place before after
  pub other : ((line_at phase place).actor ≡ before.seat.actor → ⊥) → after ≡ before

-- its commands among the first lines of a phase are answered
pub record HasRunFirst (land : Land) (phase : List Line) (count : ℕ) (before after : Acting) : Type 0 where
  pub stays : StaysBelow phase count before after
  pub acts : (past : List Answered) → IsPastOf land past before → Acts land phase past before after
  pub order : lines (part_in phase after) ≡ lines_of before.seat.actor (take count phase)

-- the actor has run its commands of a phase, if its memory was enough
pub record HasRun (land : Land) (phase : List Line) (before after : Acting) : Type 0 where
  pub still : IsStill phase before after
  pub stays : after.failed ≡ false → StaysBelow phase (length phase) before after
  pub acts : after.failed ≡ false → (past : List Answered) → IsPastOf land past before → Acts land phase past before after
  pub order : after.failed ≡ false → lines (part_in phase after) ≡ lines_of before.seat.actor (take (length phase) phase)

-- each actor sits at the service's log under its number, with its list
pub record IsSeated (service : Place) (i : ℕ) (a : Acting) : Type 0 where
  pub cells : a.seat.cells ≡ service.cells
  pub actor : a.seat.actor ≡ i
  pub entries : a.seat.entries ≡ service.entries

abbrev pub AreSeated : Place → List Acting → Type 0
AreSeated service actors = (i : ℕ) (d : Acting) → i < length actors → IsSeated service i (slice_index_or actors i d)

-- the actor is as it was, with the whole list, which begins with what it had
pub record IsTaught (service : Place) (before after : Acting) : Type 0 where
  pub starts : StartsWith service.entries before.seat.entries
  pub cells : after.seat.cells ≡ before.seat.cells
  pub actor : after.seat.actor ≡ before.seat.actor
  pub last : after.seat.last ≡ before.seat.last
  pub part : after.part ≡ before.part
  pub failed : after.failed ≡ before.failed
  pub knows : after.knows ≡ before.knows
  pub list : after.seat.entries ≡ service.entries

-- each actor knows what its replies say
abbrev pub Know : Land → List Entry → List Answered → List Acting → Type 0
Know land journal past actors = (i : ℕ) (d : Acting) → i < length actors → Knows land journal (own_of i past) (slice_index_or actors i d).knows

-- a phase was answered, behind any past
abbrev pub Continues : Land → ℕ → List Entry → List Acting → List Entry → List Acting → List Answered → Type 0
Continues land capacity xs before ys after part =
    (past : List Answered) → All (λ (a : Answered). a.at ≤ length xs) past → Know land xs past before → Serves land capacity past xs ys part × Know land ys (past ++ part) after
