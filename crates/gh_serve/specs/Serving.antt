-- The claim: what a run that ends well wrote answers the script over the map's roads, and what stands there where it doesn't.
use Rattle.std.specs.Prelude.{◌≡◌, ◌⊎◌, ℕ, List, Option, Ok}
use Rattle.std.specs.Io.KnownBytes.{Appends, Keeps}
use Rattle.gh_base.specs.Causes.{AppendsFront}
use Rattle.gh_base.specs.declared.kinds.Form.{Form}
use Rattle.gh_base.specs.declared.map.OsmMap.{OsmMap}
use Rattle.script_text.specs.declared.script.Script.{Script}
use Rattle.script_text.specs.declared.script.ScriptRead.{ScriptRead}
use Rattle.script_text.specs.Grammar.{script_of}
use Rattle.traffic_core.specs.Lands.{Land, AreRoadsOf}
use Rattle.script_service.specs.Writing.{BeginsText, Fits, BeginsOrFits}
use Rattle.map_roads.specs.Statuses.{ReadsAs}

-- a text stands so to the roads of the map that these bytes are, and to the script that those bytes are
pub record IsOfBoth (Stands : Land → Script → List ℕ → Type 0) (form : Form) (map_bytes script_bytes text : List ℕ) : Type 0 where
  pub map : OsmMap
  pub map_is : ReadsAs form map_bytes map
  pub read : ScriptRead
  pub script_is : script_of script_bytes ≡ Ok read
  pub land : Land
  pub roads_are : AreRoadsOf map land
  pub profiles_are : land.profiles ≡ read.profiles
  pub stands : Stands land read.script text

-- the text answers the script over the roads of the map
abbrev pub IsServed : Form → List ℕ → List ℕ → List ℕ → Type 0
IsServed form map_bytes script_bytes text = IsOfBoth Fits form map_bytes script_bytes text

-- where they are known, behind its old bytes the sink has such a text
abbrev pub Serves : Form → List ℕ → List ℕ → Option (List ℕ) → Option (List ℕ) → Type 0
Serves form map_bytes script_bytes old new = (text : List ℕ) × IsServed form map_bytes script_bytes text × Appends old new text

-- or a front of a text that answers the script, or its first phases
abbrev pub ServesFront : Form → List ℕ → List ℕ → Option (List ℕ) → Option (List ℕ) → Type 0
ServesFront form map_bytes script_bytes old new = (text : List ℕ) × IsOfBoth BeginsOrFits form map_bytes script_bytes text × AppendsFront old new text

-- or, where memory was wanting, nothing, or the replies of whole phases
abbrev pub ServesPart : Form → List ℕ → List ℕ → Option (List ℕ) → Option (List ℕ) → Type 0
ServesPart form map_bytes script_bytes old new = Keeps old new ⊎ ((text : List ℕ) × IsOfBoth BeginsText form map_bytes script_bytes text × Appends old new text)
