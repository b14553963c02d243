-- What `roads` writes: a line for each edge of a map's roads.
use Rattle.std.specs.Prelude.{◌⊎◌, ℕ, ℤ, List, Option}
use Rattle.std.specs.Io.KnownBytes.{Appends, Keeps}
use Rattle.gh_base.specs.Causes.{AppendsFront}
use Rattle.gh_base.specs.declared.kinds.Form.{Form}
use Rattle.map_import.specs.declared.roads.Roads.{Roads}
use Rattle.road_lines.specs.Lines.{lines_of}
use Rattle.map_roads.specs.Reading.{AreRoadsAndWays}

-- where they are known, behind its old bytes the sink has a line for each edge of the roads of the map that these bytes are
pub record WritesRoads (form : Form) (held : List ℕ) (old new : Option (List ℕ)) : Type 0 where
  pub found : Roads
  pub ways : List ℤ
  pub are : AreRoadsAndWays form held found ways
  pub written : Appends old new (lines_of found ways)

-- or a front of these lines
pub record WritesRoadsFront (form : Form) (held : List ℕ) (old new : Option (List ℕ)) : Type 0 where
  pub found : Roads
  pub ways : List ℤ
  pub are : AreRoadsAndWays form held found ways
  pub written : AppendsFront old new (lines_of found ways)

-- or, where memory was wanting, a front of them or nothing
abbrev pub WritesRoadsPart : Form → List ℕ → Option (List ℕ) → Option (List ℕ) → Type 0
WritesRoadsPart form held old new = WritesRoadsFront form held old new ⊎ Keeps old new
