-- Laws of scripts, each a statement of its own.
use Rattle.std.specs.Prelude.{◌≡◌, ℕ, ◌<◌, ◌≤◌, List, [], ◌∷◌, length, Some, None, Ok, IsTrue, slice_get, codes, decimal}
use Rattle.gh_base.specs.declared.query.Vehicle.{Vehicle}
use Rattle.model_eval.specs.Models.{no_model}
use Rattle.weighting.specs.declared.profile.Profile.{Profile}
use Rattle.script_text.specs.declared.line.Said.TheVariants as said
use Rattle.script_text.specs.declared.script.Command.{Command}
use Rattle.script_text.specs.declared.script.Script.{Script}
use Rattle.script_text.specs.declared.so_far.SoFar.{SoFar}
use Rattle.script_text.specs.Commands.{with_default, place_in}
use Rattle.script_text.specs.Grammar.{script_of}
use Rattle.script_text.specs.Headers.{actor_in}
use Rattle.script_text.specs.Lines.{all_lines, line_at}
use Rattle.script_text.specs.Names.{is_name}
use Rattle.script_text.specs.Scripts.{AreProfiles, AreActors, IsScript}
use Rattle.script_laws.specs.Writing.{spaced, vehicle_word, command_words, IsSayable, script_text, IsWritable}

-- a line of an actor's name and the words of a command says this command of this actor
abbrev pub CommandsAreRead : Type 0
CommandsAreRead = (s : SoFar) (actor : ℕ) (name : List ℕ) (command : Command) →
    AreActors s.actors → slice_get s.actors actor ≡ Some name → AreProfiles (with_default s.profiles) → length (all_lines s) < 65536 →
    IsSayable (length (with_default s.profiles)) command →
    line_at s (spaced (name ∷ command_words (with_default s.profiles) command)) ≡ Ok (said.Command actor command)

-- a line of `profile`, a new name and a vehicle declares this profile, without a statement
abbrev pub ProfilesAreRead : Type 0
ProfilesAreRead = (s : SoFar) (name : List ℕ) (vehicle : Vehicle) →
    IsTrue (is_name name) → place_in s.profiles name ≡ None → length s.profiles < 8 → s.done ≡ [] → s.phase ≡ [] →
    line_at s (spaced (codes "profile" ∷ name ∷ vehicle_word vehicle ∷ [])) ≡ Ok (said.Profile (record { name = name; vehicle = vehicle; model = no_model }))

-- a line of `journal` and a number gives it so many entries, the first time
abbrev pub JournalIsRead : Type 0
JournalIsRead = (s : SoFar) (entries : ℕ) → s.journal ≡ None → s.done ≡ [] → s.phase ≡ [] → 1 ≤ entries → entries ≤ 65536 →
    line_at s (spaced (codes "journal" ∷ decimal entries ∷ [])) ≡ Ok (said.Journal entries)

-- a line of `actor` and a new name declares this actor
abbrev pub ActorsAreRead : Type 0
ActorsAreRead = (s : SoFar) (name : List ℕ) →
    IsTrue (is_name name) → actor_in s.actors name ≡ None → length s.actors < 16 → s.done ≡ [] → s.phase ≡ [] →
    line_at s (spaced (codes "actor" ∷ name ∷ [])) ≡ Ok (said.Actor name)

-- a line `sync` ends a phase
abbrev pub SyncIsRead : Type 0
SyncIsRead = (s : SoFar) → line_at s (codes "sync") ≡ Ok said.Sync

-- what is written of a script is read as that script
abbrev pub ScriptsAreRead : Type 0
ScriptsAreRead = (profiles : List Profile) (script : Script) → IsScript profiles script → IsWritable profiles script →
    script_of (script_text profiles script) ≡ Ok (record { profiles = profiles; script = script })
