-- What a conversion writes, and what its status says of the map's bytes.
use Rattle.std.specs.Prelude.{◌≡◌, ◌<◌, ◌⊎◌, true, ℕ, List, length, Option, All}
use Rattle.std.specs.Io.KnownBytes.{Appends, Keeps}
use Rattle.gh_base.specs.Causes.{AppendsFront}
use Rattle.gh_base.specs.declared.kinds.Form.{Form}
use Rattle.gh_base.specs.declared.kinds.Form.TheVariants as forms
use Rattle.gh_base.specs.declared.map.OsmMap.{OsmMap}
use Rattle.gh_base.specs.declared.map.OsmWay.{OsmWay}
use Rattle.plain_map.specs.Printing.{plain_text}
use Rattle.pbf_wire.specs.Writing.{pbf_text, fits}
use Rattle.map_roads.specs.Statuses.{IsShortMap, ReadsAs, IsFaultOf}
use Rattle.map_roads.specs.declared.status.MapFault.TheVariants as fault
use Rattle.map_roads.specs.declared.status.Status.{Status}
use Rattle.map_roads.specs.declared.status.Status.TheVariants as status
use Rattle.map_roads.specs.declared.status.Which.TheVariants as which
use Rattle.map_roads.specs.declared.status.Quantity.TheVariants as quantity

-- a map in a form
abbrev pub text_in : Form → OsmMap → List ℕ
text_in forms.Plain map = plain_text map
text_in forms.Pbf map = pbf_text map

-- a map can be written in a form: in PBF no way is too large for a block of its own
abbrev pub FitsIn : Form → OsmMap → Type 0
FitsIn forms.Plain map = Unit {0}
FitsIn forms.Pbf map = All (λ (way : OsmWay). fits way ≡ true) map.ways

-- the bytes are in the grammar of their form, and their map can be written in the other
pub record IsConvertible (form to : Form) (held : List ℕ) : Type 0 where
  pub short : IsShortMap held
  pub map : OsmMap
  pub reads_as : ReadsAs form held map
  pub fits_in : FitsIn to map

-- where they are known, behind its old bytes the sink has the map that these bytes are, in the other form
pub record Converts (form to : Form) (held : List ℕ) (old new : Option (List ℕ)) : Type 0 where
  pub map : OsmMap
  pub reads_as : ReadsAs form held map
  pub written : Appends old new (text_in to map)

-- or a front of it
pub record ConvertsFront (form to : Form) (held : List ℕ) (old new : Option (List ℕ)) : Type 0 where
  pub map : OsmMap
  pub reads_as : ReadsAs form held map
  pub written : AppendsFront old new (text_in to map)

-- or, where memory was wanting, a front of it or nothing
abbrev pub ConvertsPart : Form → Form → List ℕ → Option (List ℕ) → Option (List ℕ) → Type 0
ConvertsPart form to held old new = ConvertsFront form to held old new ⊎ Keeps old new

-- a way is too large for PBF, or memory was wanting
abbrev pub IsUnfit : Form → OsmMap → Status → Type 0
IsUnfit to map status.NoMemory = Unit {0}
IsUnfit to map (status.TooLarge quantity.Way limit) = (limit ≡ 33554432) × (FitsIn to map → ⊥)
IsUnfit to map other = ⊥

-- the map that these bytes are has a way that is too large for PBF
pub record IsTooLarge (form to : Form) (held : List ℕ) : Type 0 where
  pub map : OsmMap
  pub reads_as : ReadsAs form held map
  pub unfit : FitsIn to map → ⊥

-- what a status says of the map's bytes: a fault exactly where it is answered, too many bytes exactly where those are, of the file or of a way
abbrev pub ConversionSays : Status → Form → Form → List ℕ → Type 0
ConversionSays status.Done form to held = IsConvertible form to held
ConversionSays status.NoMemory form to held = Unit {0}
ConversionSays status.OpenFault form to held = Unit {0}
ConversionSays (status.ReadFault which.Map) form to held = Unit {0}
ConversionSays status.WriteFault form to held = IsConvertible form to held
ConversionSays (status.BadMap (fault.Import refusal)) form to held = ⊥
ConversionSays (status.BadMap fault) form to held = IsShortMap held × IsFaultOf fault form held
ConversionSays (status.TooLarge quantity.Map limit) form to held = (limit ≡ 268435456) × (limit < length held)
ConversionSays (status.TooLarge quantity.Way limit) form to held = (limit ≡ 33554432) × IsTooLarge form to held
ConversionSays status form to held = ⊥
