-- Laws of stores, each a statement of its own.
use Rattle.std.specs.Prelude.{◌≡◌, ℕ, ◌*◌, Option, List}
use Rattle.gh_base.specs.Networks.{Network}
use Rattle.walk_rules.specs.Distances.{in_grains, AreLabelsFrom}
use Rattle.base_graph.specs.Graphs.{IsGraph}
use Rattle.landmark_prep.specs.Packing.{in_ms}
use Rattle.landmark_prep.specs.Preparations.{Preparation}
use Rattle.traffic_core.specs.Lands.{Land}
use Rattle.traffic_core.specs.Truth.{IsTrueOver}
use Rattle.prep_store.specs.declared.item.Item.{Item}
use Rattle.prep_store.specs.Evidence.{label_in, IsEvidence}
use Rattle.prep_store.specs.Stores.{IsStored}
use Rattle.prep_store.specs.Writing.{FitsBytes, IsStoreOf}

-- a list that is evidence tells the labels of the landmark: distances in whole grains, cut at 65534 of them, and none where there is no walk
abbrev pub EvidenceTellsLabels : Type 0
EvidenceTellsLabels = (network : Network) (grain landmark : ℕ) (items : List Item) (labels : ℕ → Option ℕ) →
    IsEvidence network grain landmark items → ((node : ℕ) → labels node ≡ in_ms grain (label_in items node)) →
    AreLabelsFrom (in_grains grain network) (65534 * grain) landmark labels

-- what bytes are stored for is true over the ground
abbrev pub StoredIsTrue : Type 0
StoredIsTrue = (land : Land) (prep : Preparation) (bytes : List ℕ) → IsGraph land.graph → IsStored land prep bytes → IsTrueOver land prep

-- what is written of a preparation is stored for it, so it is read again as the same
abbrev pub StoresAreReadAgain : Type 0
StoresAreReadAgain = (land : Land) (prep : Preparation) (text : List ℕ) → IsGraph land.graph → FitsBytes prep →
    IsTrueOver land prep → IsStoreOf land prep text → IsStored land prep text
