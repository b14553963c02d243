-- What a status says of the words and of the map's bytes.
use Rattle.std.specs.Prelude.{◌≡◌, ◌<◌, ◌≤◌, ◌⊎◌, ℕ, List, length, Ok, Err}
use Rattle.gh_base.specs.declared.kinds.Form.{Form}
use Rattle.gh_base.specs.declared.kinds.Form.TheVariants as forms
use Rattle.gh_base.specs.declared.map.OsmMap.{OsmMap}
use Rattle.gh_base.specs.Causes.{Rose}
use Rattle.plain_map.specs.Lines as plain
use Rattle.plain_map.specs.declared.fault.PlainFault.{PlainFault}
use Rattle.plain_map.specs.declared.fault.PlainFault.TheVariants as plain_fault
use Rattle.pbf_wire.specs.Files as pbf
use Rattle.pbf_reader.specs.declared.fault.PbfFault.{PbfFault}
use Rattle.pbf_reader.specs.declared.fault.PbfFault.TheVariants as pbf_fault
use Rattle.map_import.specs.Refusals.{Laid, roads}
use Rattle.map_roads.specs.declared.status.MapFault.{MapFault}
use Rattle.map_roads.specs.declared.status.MapFault.TheVariants as fault
use Rattle.map_roads.specs.declared.status.Status.{Status}
use Rattle.map_roads.specs.declared.status.Status.TheVariants as status
use Rattle.map_roads.specs.declared.status.Which.TheVariants as which
use Rattle.map_roads.specs.declared.status.Quantity.TheVariants as quantity

-- the map's bytes are not too many
abbrev pub IsShortMap : List ℕ → Type 0
IsShortMap held = length held ≤ 268435456

-- the bytes are this map, in a form
abbrev pub ReadsAs : Form → List ℕ → OsmMap → Type 0
ReadsAs forms.Plain held map = plain.reads held ≡ Ok map
ReadsAs forms.Pbf held map = pbf.reads held ≡ Ok map

-- the map is in its grammar, and has roads
pub record IsMap (form : Form) (held : List ℕ) : Type 0 where
  pub short : IsShortMap held
  pub map : OsmMap
  pub laid : Laid
  pub reads_as : ReadsAs form held map
  pub roads_are : roads map ≡ Ok laid

-- what is wrong with the map: its first fault where it isn't in the grammar, and else the first refusal of import
abbrev pub IsFaultOf : MapFault → Form → List ℕ → Type 0
IsFaultOf (fault.Plain line byte kind) forms.Plain held = plain.reads held ≡ Err (plain_fault.At line byte kind)
IsFaultOf (fault.Plain line byte kind) forms.Pbf held = ⊥
IsFaultOf (fault.Pbf byte kind) forms.Plain held = ⊥
IsFaultOf (fault.Pbf byte kind) forms.Pbf held = pbf.reads held ≡ Err (byte, kind)
IsFaultOf (fault.Import refusal) form held = (map : OsmMap) × ReadsAs form held map × (roads map ≡ Err refusal)

-- the script's bytes are not too many
abbrev pub IsShortScript : List ℕ → Type 0
IsShortScript held = length held ≤ 16777216

-- by the map's bytes: a fault exactly where it is answered, too many bytes exactly where that is, unless an earlier refusal came
abbrev pub MapSays : Status → Form → List ℕ → Type 0
MapSays status.Done form held = IsMap form held
MapSays status.Usage form held = Unit {0}
MapSays status.NoMemory form held = Unit {0}
MapSays status.OpenFault form held = Unit {0}
MapSays (status.ReadFault which.Map) form held = Unit {0}
MapSays (status.ReadFault which.Script) form held = IsMap form held
MapSays status.WriteFault form held = IsMap form held
MapSays (status.BadMap fault) form held = IsShortMap held × IsFaultOf fault form held
MapSays (status.BadScript line byte kind) form held = IsMap form held
MapSays status.NoLandmark form held = IsMap form held
MapSays (status.BadPrep fault) form held = IsMap form held
MapSays (status.TooLarge quantity.Map limit) form held = (limit ≡ 268435456) × (limit < length held)
MapSays (status.TooLarge what limit) form held = IsMap form held

-- a count of the outside's faults stands as it stood
abbrev pub IsCalm : ℕ → ℕ → Type 0
IsCalm before now = Rose before now → ⊥

-- a run came to its end, or memory was wanting
abbrev pub IsDoneOrNoMemory : Status → Type 0
IsDoneOrNoMemory said = (said ≡ status.Done) ⊎ (said ≡ status.NoMemory)

-- the statuses that come before the script is looked at, but for want of memory
abbrev pub IsOfMap : Status → Type 0
IsOfMap status.NoMemory = Unit {0}
IsOfMap status.OpenFault = Unit {0}
IsOfMap (status.ReadFault which.Map) = Unit {0}
IsOfMap (status.BadMap fault) = Unit {0}
IsOfMap (status.TooLarge quantity.Map limit) = Unit {0}
IsOfMap status = ⊥

-- those that reading the roads of cars gives, whose labels are counted
abbrev pub IsOfCars : Status → Type 0
IsOfCars (status.TooLarge quantity.Labels limit) = Unit {0}
IsOfCars status = IsOfMap status

-- those of them that reading the map gives, before it is imported
abbrev pub IsOfReading : Status → Type 0
IsOfReading (status.BadMap (fault.Import refusal)) = ⊥
IsOfReading status = IsOfMap status

-- those that answering the script gives
abbrev pub IsOfRun : Status → Type 0
IsOfRun status.Done = Unit {0}
IsOfRun status.NoMemory = Unit {0}
IsOfRun status.WriteFault = Unit {0}
IsOfRun status = ⊥

-- those that writing roads gives, which reads no script
abbrev pub IsOfRoads : Status → Type 0
IsOfRoads status.Done = Unit {0}
IsOfRoads status.WriteFault = Unit {0}
IsOfRoads status = IsOfMap status

-- the statuses after which nothing stands behind the sink's old bytes
abbrev pub IsUnwritten : Status → Type 0
IsUnwritten status.Done = ⊥
IsUnwritten status.WriteFault = ⊥
IsUnwritten status.NoMemory = ⊥
IsUnwritten status = Unit {0}

-- the status that a reading of a plain map ends with
abbrev pub status_of_plain : PlainFault → Status
status_of_plain (plain_fault.At line byte kind) = status.BadMap (fault.Plain line byte kind)
status_of_plain plain_fault.ReadFault = status.ReadFault which.Map
status_of_plain plain_fault.TooLong = status.TooLarge quantity.Map 268435456
status_of_plain plain_fault.NoMemory = status.NoMemory

-- the status that a reading of a PBF file ends with
abbrev pub status_of_pbf : PbfFault → Status
status_of_pbf (pbf_fault.At byte kind) = status.BadMap (fault.Pbf byte kind)
status_of_pbf pbf_fault.ReadFault = status.ReadFault which.Map
status_of_pbf pbf_fault.TooLong = status.TooLarge quantity.Map 268435456
status_of_pbf pbf_fault.NoMemory = status.NoMemory

-- those that reading standard input whole gives
abbrev pub IsOfInput : Status → Type 0
IsOfInput status.NoMemory = Unit {0}
IsOfInput (status.ReadFault which.Script) = Unit {0}
IsOfInput (status.TooLarge quantity.Script limit) = Unit {0}
IsOfInput status = ⊥

-- by its bytes: too many exactly where that is answered
abbrev pub InputSays : Status → List ℕ → Type 0
InputSays (status.TooLarge quantity.Script limit) held = (limit ≡ 16777216) × (limit < length held)
InputSays status held = Unit {0}
