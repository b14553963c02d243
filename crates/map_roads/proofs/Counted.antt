-- What is known of the roads of cars that were read and whose labels were counted, where the map's bytes are told.
use Rattle.std.proofs.Common.{◌≡◌, ◌*◌, ◌<◌, ◌≤◌, ℕ, List, Option, Some, None, refl, sym, subst, arith}
use Rattle.std.specs.Prelude.{IfSome}
use Rattle.gh_base.specs.declared.kinds.Form.{Form}
use Rattle.map_import.specs.declared.roads.Roads.{Roads}
use Rattle.map_import.specs.Building.{laid_as}
use Rattle.traffic_core.specs.Lands.{Land}
use Rattle.map_roads.specs.declared.status.Status.{Status}
use Rattle.map_roads.specs.declared.status.Status.TheVariants as status
use Rattle.map_roads.specs.declared.status.Quantity.TheVariants as quantity
use Rattle.map_roads.specs.Statuses.{IsShortMap, IsMap, MapSays}
use Rattle.map_roads.specs.Reading.{AreRoadsRead}
use Rattle.map_roads.specs.Cars.{car_land, size_of, OfCars, AreCarsIn, AreFewOfPrep, FewSay, IsTooMany}
use Rattle.map_roads.proofs.Few.{few_of, many_of}

-- roads of the map, where its bytes are told
abbrev pub AreRead : Form → Option (List ℕ) → Roads → Type 0
AreRead form holds found = IfSome holds (λ held. IsShortMap held × AreRoadsRead form held found)

-- a fact of roads of cars is one of the map's
pub of_cars : (Stands : Land → Type 0) {form : Form} {held : List ℕ} {land : Land} → AreCarsIn form held land → Stands land → OfCars Stands form held
of_cars Stands cars stands = record { found = cars.found; are = cars.are; stands = subst Stands cars.stands stands }

-- a fact of both statuses of a count that is refused
of_counted : (Stands : Status → Type 0) (labels : ℕ) → Stands status.NoMemory → (150000000 < labels → Stands (status.TooLarge quantity.Labels 150000000)) → (s : Status) → IsTooMany labels s → Stands s
of_counted Stands labels none many status.NoMemory is = none
of_counted Stands labels none many (status.TooLarge quantity.Labels limit) is = subst (λ (n : ℕ). Stands (status.TooLarge quantity.Labels n)) (sym is.0) (many (omega (arith, is.0, is.1)))
of_counted Stands labels none many (status.TooLarge quantity.Map limit) is = absurd is
of_counted Stands labels none many (status.TooLarge quantity.Script limit) is = absurd is
of_counted Stands labels none many (status.TooLarge quantity.Way limit) is = absurd is
of_counted Stands labels none many status.Done is = absurd is
of_counted Stands labels none many status.Usage is = absurd is
of_counted Stands labels none many status.OpenFault is = absurd is
of_counted Stands labels none many (status.ReadFault what) is = absurd is
of_counted Stands labels none many status.WriteFault is = absurd is
of_counted Stands labels none many (status.BadMap fault) is = absurd is
of_counted Stands labels none many (status.BadScript line byte kind) is = absurd is
of_counted Stands labels none many status.NoLandmark is = absurd is
of_counted Stands labels none many (status.BadPrep fault) is = absurd is

module _ (form : Form) (found : Roads) where
  is_map : (held : List ℕ) → IsShortMap held × AreRoadsRead form held found → IsMap form held
  is_map held read = record {
    short = read.0;
    map = read.1.map;
    laid = laid_as found.ids found.graph.lists;
    reads_as = read.1.reads_as;
    roads_are = read.1.roads_are.laid;
  }

  pub map_read : (holds : Option (List ℕ)) → AreRead form holds found → IfSome holds (IsMap form)
  map_read None read = tt
  map_read (Some held) read = is_map held read

  pub cars_read : (holds : Option (List ℕ)) → AreRead form holds found → (land : Land) → land ≡ car_land found → IfSome holds (λ held. AreCarsIn form held land)
  cars_read None read land same = tt
  cars_read (Some held) read land same = record { found = found; are = read.1; stands = same }

  module _ (count : ℕ) where
    pub few_read : (holds : Option (List ℕ)) → AreRead form holds found → count * size_of (car_land found) ≤ 150000000 → IfSome holds (λ held. AreFewOfPrep form held count)
    few_read None read few = tt
    few_read (Some held) read few = few_of form held count found read.1 few

    pub map_counted : (holds : Option (List ℕ)) → AreRead form holds found → (s : Status) → IsTooMany (count * size_of (car_land found)) s → IfSome holds (MapSays s form)
    map_counted None read s is = tt
    map_counted (Some held) read s is =
        of_counted (λ t. MapSays t form held) (count * size_of (car_land found)) tt (λ many. is_map held read) s is

    pub labels_counted : (holds : Option (List ℕ)) → AreRead form holds found → (s : Status) → IsTooMany (count * size_of (car_land found)) s → IfSome holds (λ held. FewSay s form held count)
    labels_counted None read s is = tt
    labels_counted (Some held) read s is =
        of_counted (λ t. FewSay t form held count) (count * size_of (car_land found)) tt (λ many. (refl, many_of form held count found read.1 many)) s is
