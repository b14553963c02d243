-- Lines of roads behind a sink's old bytes, where the map's bytes are told.
use Rattle.std.proofs.Common.{ℤ, ℕ, List, Option, Some, None, inl}
use Rattle.std.specs.Prelude.{IfSome}
use Rattle.std.specs.Io.KnownBytes.{Appends}
use Rattle.gh_base.specs.Causes.{AppendsFront}
use Rattle.gh_base.specs.declared.kinds.Form.{Form}
use Rattle.map_import.specs.declared.roads.Roads.{Roads}
use Rattle.road_lines.specs.Lines.{lines_of}
use Rattle.map_roads.specs.Statuses.{IsShortMap}
use Rattle.map_roads.specs.Reading.{AreRoadsAndWays}
use Rattle.gh_serve.specs.Roads.{WritesRoads, WritesRoadsFront, WritesRoadsPart}

-- roads and ways of the map, where its bytes are told
abbrev pub AreRead : Form → Option (List ℕ) → Roads → List ℤ → Type 0
AreRead form holds found ways = IfSome holds (λ held. IsShortMap held × AreRoadsAndWays form held found ways)

pub all_behind : (form : Form) (holds old new : Option (List ℕ)) (found : Roads) (ways : List ℤ) → AreRead form holds found ways → Appends old new (lines_of found ways)
    → IfSome holds (λ held. WritesRoads form held old new)
all_behind form None old new found ways read written = tt
all_behind form (Some held) old new found ways read written = record { found = found; ways = ways; are = read.1; written = written }

pub front_behind : (form : Form) (holds old new : Option (List ℕ)) (found : Roads) (ways : List ℤ) → AreRead form holds found ways → AppendsFront old new (lines_of found ways)
    → IfSome holds (λ held. WritesRoadsFront form held old new)
front_behind form None old new found ways read written = tt
front_behind form (Some held) old new found ways read written = record { found = found; ways = ways; are = read.1; written = written }

pub part_behind : (form : Form) (holds old new : Option (List ℕ)) (found : Roads) (ways : List ℤ) → AreRead form holds found ways → AppendsFront old new (lines_of found ways)
    → IfSome holds (λ held. WritesRoadsPart form held old new)
part_behind form None old new found ways read written = tt
part_behind form (Some held) old new found ways read written = inl (record { found = found; ways = ways; are = read.1; written = written })
