-- A script that is underway: so many phases were answered and written.
use Rattle.std.specs.Prelude.{◌≡◌, ◌+◌, ◌<◌, ◌≤◌, ℕ, List, [], Option, All, drop, length, slice_index_or}
use Rattle.std.specs.Io.KnownBytes.{Appends}
use Rattle.gh_base.specs.Causes.{AppendsFront, Rose}
use Rattle.traffic_core.specs.declared.entry.Entry.{Entry}
use Rattle.traffic_core.specs.Lands.{Land}
use Rattle.script_text.specs.declared.script.Line.{Line}
use Rattle.script_text.specs.declared.script.Script.{Script}
use Rattle.script_text.specs.Scripts.{lines_of}
use Rattle.traffic_share.specs.Seats.{Place}
use Rattle.script_service.specs.declared.actor.Heard.{Heard}
use Rattle.script_service.specs.Answering.{Answered, joined, lines}
use Rattle.script_service.specs.Fitting.{Begins, by_actor}
use Rattle.script_service.specs.Writing.{BeginsOrFits, lines_text}
use Rattle.script_service.specs.Actors.{Acting, AreSeated, Awaits, Continues, Know, parts_in}

-- with this journal, the bytes that a sink holds went from old to new
pub record HasServed (land : Land) (script : Script) (journal : List Entry) (count : ℕ) (old new : Option (List ℕ)) : Type 0 where
  pub phases : List (List Answered)
  pub begins : Begins land script phases journal count
  pub written : Appends old new (lines_text script.actors (joined phases))

-- and the actors know what they were answered
pub record IsUnderway (land : Land) (script : Script) (journal : List Entry) (actors : List Acting) (count : ℕ) (old new : Option (List ℕ)) : Type 0 where
  pub phases : List (List Answered)
  pub begins : Begins land script phases journal count
  pub knows : Know land journal (joined phases) actors
  pub written : Appends old new (lines_text script.actors (joined phases))

-- a front of a text that begins or answers the script came behind the old bytes, and a call of the sink failed
abbrev pub IsCutOff : Land → Script → Option (List ℕ) → Option (List ℕ) → ℕ → ℕ → Type 0
IsCutOff land script old new before after = ((text : List ℕ) × BeginsOrFits land script text × AppendsFront old new text) × Rose before after

-- there is an actor for each name, all sit at the service's log, and none was given a number as great as those of the lines from this phase on
pub record AreReady (script : Script) (count : ℕ) (service : Place) (actors : List Acting) : Type 0 where
  pub cells : length service.cells ≡ script.capacity
  pub len : length actors ≡ length script.actors
  pub seated : AreSeated service actors
  pub awaits : All (Awaits (lines_of (drop count script.phases))) actors

-- the phase of a number
abbrev pub phase_of : Script → ℕ → List Line
phase_of script count = slice_index_or script.phases count []

-- the phase of this number was answered, and the actors are ready for the next
pub record HasPhase (land : Land) (script : Script) (count : ℕ) (service later : Place) (before after : List Acting) : Type 0 where
  pub ready : AreReady script (count + 1) later after
  pub heard : All (λ (a : Acting). All (λ (h : Heard). h.place < length (phase_of script count)) a.part) after
  pub order : lines (parts_in (phase_of script count) after) ≡ by_actor (length before) (phase_of script count)
  pub serves : Continues land script.capacity service.entries before later.entries after (parts_in (phase_of script count) after)
  pub room : length later.entries ≤ script.capacity
