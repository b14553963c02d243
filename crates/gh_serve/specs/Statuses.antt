-- What a status says: of the words, of the bytes of map and script, and of what the sink has.
use Rattle.std.specs.Prelude.{◌≡◌, ◌<◌, ◌≤◌, ◌+◌, ◌⊎◌, ℕ, List, length, Option, Some, None, Ok, Err}
use Rattle.gh_base.specs.declared.kinds.Form.{Form}
use Rattle.gh_base.specs.declared.map.OsmMap.{OsmMap}
use Rattle.map_import.specs.Refusals.{Laid, roads}
use Rattle.script_text.specs.declared.script.ScriptRead.{ScriptRead}
use Rattle.script_text.specs.declared.fault.ScriptFault.TheVariants as script_fault
use Rattle.script_text.specs.Grammar.{script_of}
use Rattle.gh_words.specs.Words.{Asked, Serve, Convert, Generate, Roads, Prep, Check, Both, Turns}
use Rattle.query_lines.specs.Lines.{IsOfQueries}
use Rattle.gh_serve.specs.Labels.{labels_asked}
use Rattle.map_roads.specs.declared.status.MapFault.TheVariants as fault
use Rattle.map_roads.specs.declared.status.Status.{Status}
use Rattle.map_roads.specs.declared.status.Status.TheVariants as status
use Rattle.map_roads.specs.declared.status.Which.TheVariants as which
use Rattle.map_roads.specs.declared.status.Quantity.TheVariants as quantity
use Rattle.map_roads.specs.Statuses.{ReadsAs, IsShortScript, IsOfRun, IsOfRoads, IsUnwritten}
use Rattle.prep_runs.specs.Statuses.{IsOfPrep, IsOfCheck}

-- the script is in its grammar
pub record IsScriptText (held : List ℕ) : Type 0 where
  pub short : IsShortScript held
  pub read : ScriptRead
  pub reads_as : script_of held ≡ Ok read

-- it is this script
pub record IsScriptRead (held : List ℕ) (read : ScriptRead) : Type 0 where
  pub short : IsShortScript held
  pub reads_as : script_of held ≡ Ok read

-- so many labels of landmarks the script asks for, on the roads of the map
pub record AsksLabels (form : Form) (map_bytes script_bytes : List ℕ) (labels : ℕ) : Type 0 where
  pub map : OsmMap
  pub map_is : ReadsAs form map_bytes map
  pub laid : Laid
  pub roads_are : roads map ≡ Ok laid
  pub read : ScriptRead
  pub script_is : script_of script_bytes ≡ Ok read
  pub labels_are : labels ≡ labels_asked (length laid.ids + length laid.edges) read.script

-- these are not too many
abbrev pub AreFewLabels : Form → List ℕ → List ℕ → Type 0
AreFewLabels form map_bytes script_bytes = (labels : ℕ) × AsksLabels form map_bytes script_bytes labels × (labels ≤ 150000000)

-- or they are
abbrev pub AreManyLabels : Form → List ℕ → List ℕ → Type 0
AreManyLabels form map_bytes script_bytes = (labels : ℕ) × AsksLabels form map_bytes script_bytes labels × (150000000 < labels)

-- by the script's bytes, alike
abbrev pub ScriptSays : Status → List ℕ → Type 0
ScriptSays status.Done held = IsScriptText held
ScriptSays status.WriteFault held = IsScriptText held
ScriptSays (status.BadScript line byte kind) held = IsShortScript held × (script_of held ≡ Err (script_fault.At line byte kind))
ScriptSays (status.TooLarge quantity.Script limit) held = (limit ≡ 16777216) × (limit < length held)
ScriptSays (status.TooLarge quantity.Labels limit) held = IsScriptText held
ScriptSays status held = Unit {0}

-- by the labels that the script asks for on the roads of the map: too many exactly where that is answered, unless an earlier refusal came
abbrev pub LabelsSay : Status → Form → List ℕ → List ℕ → Type 0
LabelsSay status.Done form map_bytes script_bytes = AreFewLabels form map_bytes script_bytes
LabelsSay status.WriteFault form map_bytes script_bytes = AreFewLabels form map_bytes script_bytes
LabelsSay (status.TooLarge quantity.Labels limit) form map_bytes script_bytes = (limit ≡ 150000000) × AreManyLabels form map_bytes script_bytes
LabelsSay status form map_bytes script_bytes = Unit {0}

-- of a number of labels alone
abbrev pub CountSays : Status → ℕ → Type 0
CountSays status.Done labels = labels ≤ 150000000
CountSays status.WriteFault labels = labels ≤ 150000000
CountSays (status.TooLarge quantity.Labels limit) labels = (limit ≡ 150000000) × (limit < labels)
CountSays status labels = Unit {0}

-- the statuses that a service ends with
abbrev pub IsOfService : Status → Type 0
IsOfService status.Usage = ⊥
IsOfService (status.TooLarge quantity.Way limit) = ⊥
IsOfService status.NoLandmark = ⊥
IsOfService (status.BadPrep fault) = ⊥
IsOfService status = Unit {0}

-- those that a conversion ends with, which reads no script and imports nothing
abbrev pub IsOfConversion : Status → Type 0
IsOfConversion status.Done = Unit {0}
IsOfConversion status.NoMemory = Unit {0}
IsOfConversion status.OpenFault = Unit {0}
IsOfConversion (status.ReadFault which.Map) = Unit {0}
IsOfConversion status.WriteFault = Unit {0}
IsOfConversion (status.BadMap (fault.Plain line byte kind)) = Unit {0}
IsOfConversion (status.BadMap (fault.Pbf byte kind)) = Unit {0}
IsOfConversion (status.TooLarge quantity.Map limit) = Unit {0}
IsOfConversion (status.TooLarge quantity.Way limit) = Unit {0}
IsOfConversion status = ⊥

-- those that reading the script gives
abbrev pub IsOfScript : Status → Type 0
IsOfScript status.NoMemory = Unit {0}
IsOfScript (status.ReadFault which.Script) = Unit {0}
IsOfScript (status.BadScript line byte kind) = Unit {0}
IsOfScript (status.TooLarge quantity.Script limit) = Unit {0}
IsOfScript status = ⊥

-- those that come once map and script are read
abbrev pub IsOfAnswering : Status → Type 0
IsOfAnswering (status.TooLarge quantity.Labels limit) = Unit {0}
IsOfAnswering status = IsOfRun status

-- the statuses of what the words ask for
abbrev pub IsStatusOf : Option Asked → Status → Type 0
IsStatusOf None said = (said ≡ status.Usage) ⊎ (said ≡ status.NoMemory)
IsStatusOf (Some (Serve name form)) status = IsOfService status
IsStatusOf (Some (Convert name form to)) status = IsOfConversion status
IsStatusOf (Some (Generate size)) status = IsOfRun status
IsStatusOf (Some (Roads name form)) status = IsOfRoads status
IsStatusOf (Some (Prep name form count)) status = IsOfPrep status
IsStatusOf (Some (Check name form)) status = IsOfCheck status
IsStatusOf (Some (Both name form count)) status = IsOfQueries status
IsStatusOf (Some (Turns name form count)) status = IsOfQueries status

-- by what the words ask for: where they ask for nothing, want of memory is one of them
abbrev pub IsSilent : Option Asked → Status → Type 0
IsSilent None status = Unit {0}
IsSilent (Some asked) status = IsUnwritten status
