-- What the bytes of map and script ask for in labels, where roads and script are read.
use Rattle.std.proofs.Common.{refl, ℕ, List, Option, Some, None, arith}
use Rattle.std.specs.Prelude.{IfSome}
use Rattle.gh_base.specs.declared.kinds.Form.{Form}
use Rattle.map_import.specs.declared.roads.Roads.{Roads}
use Rattle.map_import.specs.Building.{laid_as}
use Rattle.script_text.specs.declared.script.ScriptRead.{ScriptRead}
use Rattle.traffic_core.specs.Lands.{land_of}
use Rattle.gh_serve.specs.Labels.{labels_asked}
use Rattle.map_roads.specs.Cars.{size_of}
use Rattle.map_roads.specs.Reading.{AreRoadsRead}
use Rattle.map_roads.specs.Statuses.{IsShortMap}
use Rattle.gh_serve.specs.Statuses.{IsScriptRead, AsksLabels, CountSays, LabelsSay}
use Rattle.map_roads.specs.declared.status.Status.{Status}
use Rattle.map_roads.specs.declared.status.Status.TheVariants as status
use Rattle.map_roads.specs.declared.status.Quantity.TheVariants as quantity

abbrev count_of : Roads → ScriptRead → ℕ
count_of found read = labels_asked (size_of (land_of found read.profiles)) read.script

asks : (form : Form) (held bytes : List ℕ) (found : Roads) (read : ScriptRead) → AreRoadsRead form held found → IsScriptRead bytes read →
    AsksLabels form held bytes (count_of found read)
asks form held bytes found read roads_read script_read = record {
  map = roads_read.map;
  map_is = roads_read.reads_as;
  laid = laid_as found.ids found.graph.lists;
  roads_are = roads_read.roads_are.laid;
  read = read;
  script_is = script_read.reads_as;
  labels_are = refl;
}

says : (s : Status) (form : Form) (held bytes : List ℕ) (labels : ℕ) → AsksLabels form held bytes labels → CountSays s labels → LabelsSay s form held bytes
says status.Done form held bytes labels asked count = (labels, asked, count)
says status.WriteFault form held bytes labels asked count = (labels, asked, count)
says (status.TooLarge quantity.Labels limit) form held bytes labels asked count = (count.0, (labels, asked, omega (arith, count.0, count.1)))
says status.Usage form held bytes labels asked count = tt
says status.NoMemory form held bytes labels asked count = tt
says status.OpenFault form held bytes labels asked count = tt
says (status.ReadFault what) form held bytes labels asked count = tt
says (status.BadMap fault) form held bytes labels asked count = tt
says (status.BadScript line byte kind) form held bytes labels asked count = tt
says status.NoLandmark form held bytes labels asked count = tt
says (status.BadPrep fault) form held bytes labels asked count = tt
says (status.TooLarge quantity.Map limit) form held bytes labels asked count = tt
says (status.TooLarge quantity.Script limit) form held bytes labels asked count = tt
says (status.TooLarge quantity.Way limit) form held bytes labels asked count = tt

pub labels_say : (s : Status) (form : Form) (holds left : Option (List ℕ)) (found : Roads) (read : ScriptRead) →
    IfSome holds (λ held. IsShortMap held × AreRoadsRead form held found) → IfSome left (λ bytes. IsScriptRead bytes read) → CountSays s (count_of found read) →
    IfSome holds (λ held. IfSome left (λ bytes. LabelsSay s form held bytes))
labels_say s form None left found read roads_read script_read count = tt
labels_say s form (Some held) None found read roads_read script_read count = tt
labels_say s form (Some held) (Some bytes) found read roads_read script_read count =
    says s form held bytes (count_of found read) (asks form held bytes found read roads_read.1 script_read) count
