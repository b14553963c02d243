-- What a status says of query lines.
use Rattle.std.specs.Prelude.{◌≡◌, ◌<◌, ℕ, List, length, Result, Ok, Err}
use Rattle.script_text.specs.declared.fault.LineFault.{LineFault}
use Rattle.script_text.specs.declared.fault.LineFault.TheVariants as faults
use Rattle.script_text.specs.declared.fault.ScriptFault.{ScriptFault}
use Rattle.script_text.specs.declared.fault.ScriptFault.TheVariants as fault
use Rattle.map_roads.specs.declared.status.Status.{Status}
use Rattle.map_roads.specs.declared.status.Status.TheVariants as status
use Rattle.map_roads.specs.declared.status.Which.TheVariants as which
use Rattle.map_roads.specs.declared.status.Quantity.TheVariants as quantity
use Rattle.map_roads.specs.Statuses.{IsShortScript}
use Rattle.query_lines.specs.declared.queries.TowerQuery.{TowerQuery}
use Rattle.query_lines.specs.Queries.{queries_of}

-- the bytes are not too many, and are these queries
pub record AreQueries (held : List ℕ) (queries : List TowerQuery) : Type 0 where
  pub short : IsShortScript held
  pub reads_as : queries_of held ≡ Ok queries

-- they are queries
abbrev pub IsQueryText : List ℕ → Type 0
IsQueryText held = (queries : List TowerQuery) × AreQueries held queries

-- by the bytes of standard input: a fault exactly where it is answered, too many bytes exactly where that is, unless an earlier refusal came
abbrev pub LinesSay : Status → List ℕ → Type 0
LinesSay status.Done held = IsQueryText held
LinesSay status.WriteFault held = IsQueryText held
LinesSay (status.BadScript line byte kind) held = IsShortScript held × (queries_of held ≡ Err (fault.At line byte kind))
LinesSay (status.TooLarge quantity.Script limit) held = (limit ≡ 16777216) × (limit < length held)
LinesSay status held = Unit {0}

-- the status that a fault of a line, of this number, ends a run with
abbrev pub status_at : ℕ → LineFault → Status
status_at line faults.NoMemory = status.NoMemory
status_at line (faults.At byte kind) = status.BadScript line byte kind

-- a status tells the fault that a reading of lines ended with, or want of memory
abbrev pub TellsFault : {A : Type 0} → Result A ScriptFault → Status → Type 0
TellsFault read status.NoMemory = Unit {0}
TellsFault read (status.BadScript line byte kind) = read ≡ Err (fault.At line byte kind)
TellsFault read status = ⊥

-- the statuses that reading them gives
abbrev pub IsOfLines : Status → Type 0
IsOfLines status.NoMemory = Unit {0}
IsOfLines (status.ReadFault which.Script) = Unit {0}
IsOfLines (status.BadScript line byte kind) = Unit {0}
IsOfLines (status.TooLarge quantity.Script limit) = Unit {0}
IsOfLines status = ⊥

-- those that answering them gives, once the map is read
abbrev pub IsOfAnswering : Status → Type 0
IsOfAnswering status.Done = Unit {0}
IsOfAnswering status.WriteFault = Unit {0}
IsOfAnswering status = IsOfLines status

-- those that answering queries over the map of a name gives
abbrev pub IsOfQueries : Status → Type 0
IsOfQueries status.Done = Unit {0}
IsOfQueries status.NoMemory = Unit {0}
IsOfQueries status.OpenFault = Unit {0}
IsOfQueries (status.ReadFault what) = Unit {0}
IsOfQueries status.WriteFault = Unit {0}
IsOfQueries (status.BadMap fault) = Unit {0}
IsOfQueries (status.BadScript line byte kind) = Unit {0}
IsOfQueries (status.TooLarge quantity.Map limit) = Unit {0}
IsOfQueries (status.TooLarge quantity.Script limit) = Unit {0}
IsOfQueries (status.TooLarge quantity.Labels limit) = Unit {0}
IsOfQueries status = ⊥
