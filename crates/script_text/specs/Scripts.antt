-- What each script that is read keeps.
use Rattle.std.specs.Prelude.{◌≡◌, ℕ, ◌+◌, ◌<◌, ◌≤◌, ◌^◌, Bool, true, false, List, [], ◌∷◌, ◌++◌, take, length, slice_index_or, All, IsTrue, ◌==◌, if◌then◌else◌}
use Rattle.std.specs.List.{AllPairs}
use Rattle.std.specs.Str.{bytes_eq}
use Rattle.gh_base.specs.Places.{IsPlace}
use Rattle.model_eval.specs.Models.{IsModel}
use Rattle.weighting.specs.declared.profile.Profile.{Profile}
use Rattle.script_text.specs.declared.script.Command.{Command}
use Rattle.script_text.specs.declared.script.Command.TheVariants as command
use Rattle.script_text.specs.declared.script.Line.{Line}
use Rattle.script_text.specs.declared.script.Script.{Script}
use Rattle.script_text.specs.Names.{is_name}

-- a command where there are so many profiles
abbrev pub IsCommand : ℕ → Command → Type 0
IsCommand profiles (command.Model profile text) = (profile < profiles) × (length text < 2 ^ 32)
IsCommand profiles (command.Route start target labels) = IsPlace start × IsPlace target
IsCommand profiles (command.Lower edge reverse speed) = Unit {0}
IsCommand profiles (command.Restore edge reverse speed) = Unit {0}
IsCommand profiles (command.Prepare profile count) = (profile < profiles) × ((1 ≤ count) × (count ≤ 16))
IsCommand profiles (command.Publish profile) = profile < profiles

-- a line where there are so many profiles and actors
pub record IsLine (profiles actors : ℕ) (line : Line) : Type 0 where
  pub actor : line.actor < actors
  pub command : IsCommand profiles line.command

-- how many of these lines are an actor's
abbrev pub turns_of : ℕ → List Line → ℕ
turns_of actor [] = 0
turns_of actor (line ∷ lines) = (if line.actor == actor then 1 else 0) + turns_of actor lines

-- each line has the number behind those of its actor that stand before it, from 1 on
abbrev pub AreNumbered : List Line → Type 0
AreNumbered lines = (k : ℕ) (d : Line) → k < length lines → (slice_index_or lines k d).number ≡ turns_of (slice_index_or lines k d).actor (take k lines) + 1

-- the lines of phases, in order
abbrev pub lines_of : List (List Line) → List Line
lines_of [] = []
lines_of (phase ∷ phases) = phase ++ lines_of phases

-- a command that may become an entry of the journal
abbrev pub is_change : Command → Bool
is_change (command.Model profile text) = false
is_change (command.Route start target labels) = false
is_change (command.Lower edge reverse speed) = true
is_change (command.Restore edge reverse speed) = true
is_change (command.Prepare profile count) = false
is_change (command.Publish profile) = true

abbrev pub changes_in : List Line → ℕ
changes_in [] = 0
changes_in (line ∷ lines) = (if is_change line.command then 1 else 0) + changes_in lines

pub record IsProfile (profile : Profile) : Type 0 where
  pub name : IsTrue (is_name profile.name)
  pub model : IsModel profile.model

pub record AreProfiles (profiles : List Profile) : Type 0 where
  pub few : length profiles ≤ 8
  pub each : All IsProfile profiles
  pub different : AllPairs (λ a b. bytes_eq a.name b.name ≡ false) profiles

pub record AreActors (names : List (List ℕ)) : Type 0 where
  pub few : length names ≤ 16
  pub each : All (λ name. IsTrue (is_name name)) names
  pub different : AllPairs (λ a b. bytes_eq a b ≡ false) names

pub record AreLines (profiles actors : ℕ) (lines : List Line) : Type 0 where
  pub few : length lines ≤ 65536
  pub each : All (IsLine profiles actors) lines
  pub numbered : AreNumbered lines

-- how many entries a journal may have
pub record IsCapacity (capacity : ℕ) : Type 0 where
  pub some : 1 ≤ capacity
  pub few : capacity ≤ 65536

-- what each script that is read keeps
pub record IsScript (profiles : List Profile) (script : Script) : Type 0 where
  pub some : 0 < length profiles
  pub profiles_are : AreProfiles profiles
  pub actors : AreActors script.actors
  pub capacity : IsCapacity script.capacity
  pub lines : AreLines (length profiles) (length script.actors) (lines_of script.phases)
