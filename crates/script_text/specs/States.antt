-- What a reading keeps from line to line.
use Rattle.std.specs.Prelude.{◌≡◌, ◌≢◌, ℕ, ◌+◌, ◌<◌, ◌≤◌, if◌then◌else◌, Bool, List, [], length, slice_index, Option, None, IsTrue, IfSome}
use Rattle.script_text.specs.declared.line.Said.{Said}
use Rattle.script_text.specs.declared.line.Said.TheVariants as said
use Rattle.script_text.specs.declared.so_far.SoFar.{SoFar}
use Rattle.script_text.specs.declared.so_far.Tally.{Tally}
use Rattle.script_text.specs.Commands.{with_default, place_in}
use Rattle.script_text.specs.Headers.{actor_in}
use Rattle.script_text.specs.Lines.{all_lines}
use Rattle.script_text.specs.Names.{is_name}
use Rattle.script_text.specs.Scripts.{IsCommand, IsProfile, AreProfiles, AreActors, AreLines, IsCapacity, turns_of, changes_in}

-- what stood so far is a script's
pub record IsSoFar (s : SoFar) : Type 0 where
  pub profiles_are : AreProfiles s.profiles
  pub actors : AreActors s.actors
  pub capacity : IfSome s.journal IsCapacity
  pub lines : AreLines (length (with_default s.profiles)) (length s.actors) (all_lines s)

-- what is counted beside it
pub record IsTally (s : SoFar) (t : Tally) : Type 0 where
  pub commands : t.commands ≡ length (all_lines s)
  pub changes : t.changes ≡ changes_in (all_lines s)
  pub numbers : (actor : ℕ) → actor < 16 → slice_index t.numbers actor ≡ turns_of actor (all_lines s)

-- what a line may say
abbrev pub IsSaid : SoFar → Said → Type 0
IsSaid s said.Nothing = Unit {0}
IsSaid s (said.Profile p) = (length s.profiles < 8) × (IsProfile p × ((place_in s.profiles p.name ≡ None) × (all_lines s ≡ [])))
IsSaid s (said.Journal n) = IsCapacity n
IsSaid s (said.Actor a) = (length s.actors < 16) × (IsTrue (is_name a) × ((actor_in s.actors a ≡ None) × (all_lines s ≡ [])))
IsSaid s said.Sync = Unit {0}
IsSaid s (said.Command a c) = (length (all_lines s) < 65536) × ((a < length s.actors) × IsCommand (length (with_default s.profiles)) c)

-- what counting a command of an actor changes
pub record Counts (t u : Tally) (actor : ℕ) (change : Bool) : Type 0 where
  pub commands : u.commands ≡ t.commands + 1
  pub changes : u.changes ≡ t.changes + (if change then 1 else 0)
  pub own : slice_index u.numbers actor ≡ slice_index t.numbers actor + 1
  pub others : (k : ℕ) → k < 16 → k ≢ actor → slice_index u.numbers k ≡ slice_index t.numbers k
