-- The texts for faults.
use Rattle.std.specs.Prelude.{ℕ, ℤ, List, [], ◌++◌, codes, decimal}
use Rattle.std.specs.Fmt.{signed_decimal}
use Rattle.map_import.specs.declared.faults.ImportFault.{ImportFault}
use Rattle.map_import.specs.declared.faults.ImportFault.TheVariants as import
use Rattle.gh_base.specs.declared.kinds.PlainKind.{PlainKind}
use Rattle.gh_base.specs.declared.kinds.PlainKind.TheVariants as plain
use Rattle.gh_base.specs.declared.kinds.PbfKind.{PbfKind}
use Rattle.gh_base.specs.declared.kinds.PbfKind.TheVariants as pbf
use Rattle.gh_base.specs.declared.kinds.ScriptKind.{ScriptKind}
use Rattle.gh_base.specs.declared.kinds.ScriptKind.TheVariants as script
use Rattle.prep_store.specs.declared.fault.PrepFault.{PrepFault}
use Rattle.prep_store.specs.declared.fault.PrepFault.TheVariants as prep
use Rattle.map_roads.specs.declared.status.Status.{Status}
use Rattle.map_roads.specs.declared.status.Status.TheVariants as status
use Rattle.map_roads.specs.declared.status.Which.TheVariants as which
use Rattle.map_roads.specs.declared.status.Quantity.{Quantity}
use Rattle.map_roads.specs.declared.status.Quantity.TheVariants as quantity
use Rattle.map_roads.specs.declared.status.MapFault.{MapFault}
use Rattle.map_roads.specs.declared.status.MapFault.TheVariants as fault

-- the words of kinds: their names
abbrev pub plain_word : PlainKind → List ℕ
plain_word plain.Utf8 = codes "Utf8"
plain_word plain.Line = codes "Line"
plain_word plain.Number = codes "Number"
plain_word plain.Escape = codes "Escape"
plain_word plain.Tag = codes "Tag"
plain_word plain.Place = codes "Place"
plain_word plain.Field = codes "Field"
plain_word plain.Missing = codes "Missing"

abbrev pub script_word : ScriptKind → List ℕ
script_word script.Utf8 = codes "Utf8"
script_word script.Word = codes "Word"
script_word script.Name = codes "Name"
script_word script.Twice = codes "Twice"
script_word script.NoActor = codes "NoActor"
script_word script.NoProfile = codes "NoProfile"
script_word script.Late = codes "Late"
script_word script.Number = codes "Number"
script_word script.Place = codes "Place"
script_word script.Json = codes "Json"
script_word script.Model = codes "Model"
script_word script.TooMany = codes "TooMany"

-- two of them say more behind a space
abbrev pub pbf_word : PbfKind → List ℕ
pbf_word pbf.Truncated = codes "Truncated"
pbf_word pbf.HeaderTooLong = codes "HeaderTooLong"
pbf_word pbf.BadWire = codes "BadWire"
pbf_word pbf.Missing = codes "Missing"
pbf_word pbf.BlobTooLong = codes "BlobTooLong"
pbf_word pbf.NoHeader = codes "NoHeader"
pbf_word pbf.NoData = codes "NoData"
pbf_word (pbf.Compressed field) = codes "Compressed "
pbf_word (pbf.Feature name) = codes "Feature "
pbf_word pbf.BadUtf8 = codes "BadUtf8"
pbf_word pbf.Uneven = codes "Uneven"
pbf_word pbf.OddKeys = codes "OddKeys"
pbf_word pbf.BadIndex = codes "BadIndex"
pbf_word pbf.BadId = codes "BadId"
pbf_word pbf.BadPlace = codes "BadPlace"

abbrev pub pbf_more : PbfKind → List ℕ
pbf_more (pbf.Compressed field) = decimal field
pbf_more (pbf.Feature name) = name
pbf_more kind = []

abbrev pub quantity_word : Quantity → List ℕ
quantity_word quantity.Map = codes "map bytes"
quantity_word quantity.Script = codes "script bytes"
quantity_word quantity.Labels = codes "labels"
quantity_word quantity.Way = codes "way bytes"

-- `WHAT line L byte B: KIND`
abbrev pub place_text : List ℕ → ℕ → ℕ → List ℕ → List ℕ
place_text what line byte word = what ++ codes " line " ++ decimal line ++ codes " byte " ++ decimal byte ++ codes ": " ++ word

-- a refusal of import: its name, and behind it the ids that it is about
abbrev pub import_word : ImportFault → List ℕ
import_word (import.TwiceNode id) = codes "TwiceNode "
import_word (import.MissingNode way node) = codes "MissingNode way "
import_word (import.TooLong way) = codes "TooLong way "
import_word import.TooManyEdges = codes "TooManyEdges"
import_word import.TooManyNodes = codes "TooManyNodes"
import_word import.NoMemory = codes "NoMemory"

abbrev pub missing_text : ℤ → ℤ → List ℕ
missing_text way node = signed_decimal way ++ codes " node " ++ signed_decimal node

abbrev pub import_more : ImportFault → List ℕ
import_more (import.TwiceNode id) = signed_decimal id
import_more (import.MissingNode way node) = missing_text way node
import_more (import.TooLong way) = signed_decimal way
import_more fault = []

-- a plain map has lines, a PBF file has bytes alone
abbrev pub map_text : MapFault → List ℕ
map_text (fault.Plain line byte kind) = place_text (codes "map") line byte (plain_word kind)
map_text (fault.Pbf byte kind) = codes "map byte " ++ decimal byte ++ codes ": " ++ pbf_word kind ++ pbf_more kind
map_text (fault.Import refusal) = codes "map: " ++ import_word refusal ++ import_more refusal

abbrev pub prep_word : PrepFault → List ℕ
prep_word prep.ReadFault = codes "ReadFault"
prep_word prep.NoMemory = codes "NoMemory"
prep_word (prep.Short byte) = codes "Short"
prep_word prep.Magic = codes "Magic"
prep_word (prep.Profile profile) = codes "Profile"
prep_word (prep.Sizes towers edges) = codes "Sizes"
prep_word (prep.Count count) = codes "Count"
prep_word (prep.Landmarks place) = codes "Landmarks"
prep_word (prep.Grain grain) = codes "Grain"
prep_word (prep.Order landmark back place) = codes "Order"
prep_word (prep.Open landmark back edge) = codes "Open"
prep_word prep.After = codes "After"

abbrev pub prep_text : PrepFault → List ℕ
prep_text fault = codes "preparation: " ++ prep_word fault

-- the line that says why a run ended so
abbrev pub fault_text_of : Status → List ℕ
fault_text_of status.Done = []
fault_text_of status.Usage = codes "gh: usage"
fault_text_of status.NoMemory = codes "gh: no memory"
fault_text_of status.OpenFault = codes "gh: cannot open the map"
fault_text_of (status.ReadFault which.Map) = codes "gh: cannot read the map"
fault_text_of (status.ReadFault which.Script) = codes "gh: cannot read the script"
fault_text_of status.WriteFault = codes "gh: cannot write"
fault_text_of (status.BadMap fault) = codes "gh: " ++ map_text fault
fault_text_of (status.BadScript line byte kind) = codes "gh: " ++ place_text (codes "script") line byte (script_word kind)
fault_text_of (status.TooLarge what limit) = codes "gh: " ++ quantity_word what ++ codes " over " ++ decimal limit
fault_text_of status.NoLandmark = codes "gh: no landmark"
fault_text_of (status.BadPrep fault) = codes "gh: " ++ prep_text fault
