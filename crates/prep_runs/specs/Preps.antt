-- What `prep` writes of a map's roads, and what `check` says of a store that is read.
use Rattle.std.specs.Prelude.{◌≡◌, ◌⊎◌, ◌++◌, ℕ, List, [], Option, length, codes, decimal}
use Rattle.std.specs.Io.KnownBytes.{Keeps}
use Rattle.gh_base.specs.Causes.{AppendsFront}
use Rattle.gh_base.specs.declared.kinds.Form.{Form}
use Rattle.map_import.specs.declared.roads.Roads.{Roads}
use Rattle.landmark_prep.specs.Preparations.{Preparation}
use Rattle.traffic_core.specs.Lands.{Land}
use Rattle.traffic_core.specs.Truth.{IsPrepAt, IsNoPrepAt}
use Rattle.prep_store.specs.Stores.{IsStored}
use Rattle.prep_store.specs.Writing.{IsStoreOf}
use Rattle.prep_store.specs.FirstFaults.{IsFirstFault}
use Rattle.prep_store.specs.declared.fault.PrepFault.{PrepFault}
use Rattle.map_roads.specs.Reading.{AreRoadsRead}
use Rattle.map_roads.specs.declared.status.Status.{Status}
use Rattle.map_roads.specs.declared.status.Status.TheVariants as status
use Rattle.map_roads.specs.declared.status.Quantity.TheVariants as quantity
use Rattle.map_roads.specs.Cars.{car_land, OfCars, AreFewOfPrep, AreManyOfPrep}

-- a text is the store of the preparation at the opening limits, with at most so many landmarks
pub record IsStoreAt (count : ℕ) (text : List ℕ) (land : Land) : Type 0 where
  pub prep : Preparation
  pub is_prep : IsPrepAt land [] 0 count prep
  pub store : IsStoreOf land prep text

-- of the roads of cars of the map that bytes are in a form
abbrev pub IsPrepText : Form → List ℕ → ℕ → List ℕ → Type 0
IsPrepText form held count text = OfCars (IsStoreAt count text) form held

-- behind its old bytes the sink has a front of what is the store of that preparation
pub record StoresFront (count : ℕ) (old new : Option (List ℕ)) (land : Land) : Type 0 where
  pub prep : Preparation
  pub is_prep : IsPrepAt land [] 0 count prep
  pub written : (text : List ℕ) → IsStoreOf land prep text → AppendsFront old new text

-- of the roads of cars
abbrev pub PrepsFront : Form → List ℕ → ℕ → Option (List ℕ) → Option (List ℕ) → Type 0
PrepsFront form held count old new = OfCars (StoresFront count old new) form held

-- or, where memory was wanting, a front of it or nothing
abbrev pub PrepsPart : Form → List ℕ → ℕ → Option (List ℕ) → Option (List ℕ) → Type 0
PrepsPart form held count old new = PrepsFront form held count old new ⊎ Keeps old new

-- no road can be used by cars
abbrev pub HasNoLandmark : Form → List ℕ → Type 0
HasNoLandmark form held = OfCars (λ land. IsNoPrepAt land [] 0) form held

-- too many exactly where that is answered, and no landmark exactly where there is none, unless an earlier refusal came
abbrev pub PrepSays : Status → Form → List ℕ → ℕ → Type 0
PrepSays status.Done form held count = AreFewOfPrep form held count
PrepSays status.WriteFault form held count = AreFewOfPrep form held count
PrepSays status.NoLandmark form held count = AreFewOfPrep form held count × HasNoLandmark form held
PrepSays (status.TooLarge quantity.Labels limit) form held count = (limit ≡ 150000000) × AreManyOfPrep form held count
PrepSays status form held count = Unit {0}

-- `prep N grain G` and a newline
abbrev pub checked_text : Preparation → List ℕ
checked_text prep = codes "prep " ++ (decimal (length prep.landmarks) ++ (codes " grain " ++ (decimal prep.grain ++ codes "\n")))

-- the bytes of a store are a preparation's, which a text tells
pub record IsChecked (bytes text : List ℕ) (land : Land) : Type 0 where
  pub prep : Preparation
  pub stored : IsStored land prep bytes
  pub text_is : text ≡ checked_text prep

-- over the roads of cars of the map that bytes are in a form
abbrev pub IsCheckText : Form → List ℕ → List ℕ → List ℕ → Type 0
IsCheckText form held bytes text = OfCars (IsChecked bytes text) form held

-- the first fault of the store, where one is told
abbrev pub StoreSays : Status → Form → List ℕ → List ℕ → Type 0
StoreSays (status.BadPrep fault) form held bytes = OfCars (λ land. IsFirstFault land bytes fault) form held
StoreSays status form held bytes = Unit {0}

-- of roads alone
abbrev pub StoreSaysOf : Status → Land → List ℕ → Type 0
StoreSaysOf (status.BadPrep fault) land bytes = IsFirstFault land bytes fault
StoreSaysOf status land bytes = Unit {0}

-- the bytes have no fault as a store of the roads, in whatever order these list the edges around a tower
abbrev pub HasNoFault : Form → List ℕ → List ℕ → Type 0
HasNoFault form held bytes = (found : Roads) → AreRoadsRead form held found → (fault : PrepFault) → IsFirstFault (car_land found) bytes fault → ⊥
