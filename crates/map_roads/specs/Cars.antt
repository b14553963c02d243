-- The roads of a map for cars, and the labels of landmarks that they are asked for.
use Rattle.std.specs.Prelude.{ℕ, ◌+◌, ◌*◌, List, [], ◌∷◌, length, ◌≡◌, ◌<◌, ◌≤◌, Ok}
use Rattle.traffic_core.specs.Lands.{Land, land_of}
use Rattle.map_roads.specs.declared.status.Status.{Status}
use Rattle.map_roads.specs.declared.status.Status.TheVariants as status
use Rattle.map_roads.specs.declared.status.Which.TheVariants as which
use Rattle.map_roads.specs.declared.status.Quantity.TheVariants as quantity
use Rattle.gh_base.specs.declared.kinds.Form.{Form}
use Rattle.gh_base.specs.declared.map.OsmMap.{OsmMap}
use Rattle.map_import.specs.declared.roads.Roads.{Roads}
use Rattle.map_import.specs.Refusals.{Laid, roads}
use Rattle.weighting.specs.Profiles.{car_profile}
use Rattle.map_roads.specs.Reading.{AreRoadsRead}
use Rattle.map_roads.specs.Statuses.{ReadsAs}

-- towers and edges together
abbrev pub size_of : Land → ℕ
size_of land = length land.ids + length land.graph.edges

-- roads with the profile of cars alone
abbrev pub car_land : Roads → Land
car_land found = land_of found (car_profile ∷ [])

-- a fact of the roads of cars that a map's bytes are in a form
pub record OfCars (Stands : Land → Type 0) (form : Form) (held : List ℕ) : Type 0 where
  pub found : Roads
  pub are : AreRoadsRead form held found
  pub stands : Stands (car_land found)

-- roads are those of cars that a map's bytes are in a form
abbrev pub AreCarsIn : Form → List ℕ → Land → Type 0
AreCarsIn form held land = OfCars (λ cars. land ≡ cars) form held

-- so many labels a preparation with so many landmarks asks for: one of each at each tower and edge
pub record AsksPrep (form : Form) (held : List ℕ) (count labels : ℕ) : Type 0 where
  pub map : OsmMap
  pub map_is : ReadsAs form held map
  pub laid : Laid
  pub roads_are : roads map ≡ Ok laid
  pub labels_are : labels ≡ count * (length laid.ids + length laid.edges)

-- these are not too many
abbrev pub AreFewOfPrep : Form → List ℕ → ℕ → Type 0
AreFewOfPrep form held count = (labels : ℕ) × AsksPrep form held count labels × (labels ≤ 150000000)

-- or they are
abbrev pub AreManyOfPrep : Form → List ℕ → ℕ → Type 0
AreManyOfPrep form held count = (labels : ℕ) × AsksPrep form held count labels × (150000000 < labels)

-- of a number of labels alone: a refusal is that they are too many, or want of memory
abbrev pub IsTooMany : ℕ → Status → Type 0
IsTooMany labels status.NoMemory = Unit {0}
IsTooMany labels (status.TooLarge quantity.Labels limit) = (limit ≡ 150000000) × (limit < labels)
IsTooMany labels status = ⊥

-- by these labels: too many exactly where that is answered, unless an earlier refusal came
abbrev pub FewSay : Status → Form → List ℕ → ℕ → Type 0
FewSay status.Done form held count = AreFewOfPrep form held count
FewSay status.WriteFault form held count = AreFewOfPrep form held count
FewSay (status.ReadFault which.Script) form held count = AreFewOfPrep form held count
FewSay (status.BadScript line byte kind) form held count = AreFewOfPrep form held count
FewSay (status.TooLarge quantity.Script limit) form held count = AreFewOfPrep form held count
FewSay (status.TooLarge quantity.Labels limit) form held count = (limit ≡ 150000000) × AreManyOfPrep form held count
FewSay status form held count = Unit {0}
