-- Laws of stores, each a statement of its own.
use Rattle.std.specs.Prelude.{◌≡◌, ℕ, List}
use Rattle.base_graph.specs.Graphs.{IsGraph}
use Rattle.landmark_prep.specs.Preparations.{Preparation}
use Rattle.traffic_core.specs.Lands.{Land}
use Rattle.prep_store.specs.declared.fault.PrepFault.{PrepFault}
use Rattle.prep_store.specs.Stores.{IsStored}
use Rattle.prep_store.specs.FirstFaults.{IsFirstFault}

-- bytes are stored for one preparation
abbrev pub OneStored : Type 0
OneStored = (land : Land) (one other : Preparation) (bytes : List ℕ) → IsGraph land.graph → IsStored land one bytes → IsStored land other bytes → one ≡ other

-- bytes that are stored for a preparation have no fault
abbrev pub StoredHasNoFault : Type 0
StoredHasNoFault = (land : Land) (prep : Preparation) (bytes : List ℕ) (fault : PrepFault) → IsGraph land.graph → IsStored land prep bytes → IsFirstFault land bytes fault → ⊥
