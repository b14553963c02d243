-- The labels that a preparation asks for are one number.
use Rattle.std.proofs.Common.{◌≡◌, refl, ℕ, ◌*◌, ◌≤◌, ◌<◌, List, arith}
use Rattle.gh_base.specs.declared.kinds.Form.{Form}
use Rattle.map_import.specs.declared.roads.Roads.{Roads}
use Rattle.map_import.specs.Building.{laid_as}
use Rattle.map_roads.specs.Reading.{AreRoadsRead}
use Rattle.map_roads.specs.Cars.{size_of, car_land, AsksPrep, AreFewOfPrep, AreManyOfPrep}
use Rattle.map_roads.proofs.OneMap.{one_map}

pub asks : (form : Form) (held : List ℕ) (count : ℕ) (found : Roads) → AreRoadsRead form held found → AsksPrep form held count (count * size_of (car_land found))
asks form held count found read = record {
  map = read.map;
  map_is = read.reads_as;
  laid = laid_as found.ids found.graph.lists;
  roads_are = read.roads_are.laid;
  labels_are = refl;
}

pub few_or_many : (form : Form) (held : List ℕ) (count : ℕ) → AreFewOfPrep form held count → AreManyOfPrep form held count → ⊥
few_or_many form held count few many =
    let a = few.1 in
    let b = many.1 in
    let same = one_map form held a.map b.map a.map_is b.map_is in
    let laid_a = a.roads_are in
    let laid_b = b.roads_are in
    let labels_a = a.labels_are in
    let labels_b = b.labels_are in
    let one : few.0 ≡ many.0 = cc in
    let le = few.2 in
    let lt = many.2 in
    omega (arith, one, le, lt)

-- few of them, with the map's bytes where these are told
pub few_of : (form : Form) (held : List ℕ) (count : ℕ) (found : Roads) → AreRoadsRead form held found → count * size_of (car_land found) ≤ 150000000 → AreFewOfPrep form held count
few_of form held count found read few = (count * size_of (car_land found), asks form held count found read, few)

pub many_of : (form : Form) (held : List ℕ) (count : ℕ) (found : Roads) → AreRoadsRead form held found → 150000000 < count * size_of (car_land found) → AreManyOfPrep form held count
many_of form held count found read many = (count * size_of (car_land found), asks form held count found read, many)
