-- Laws of preparations, each a statement of its own.
use Rattle.std.specs.Prelude.{◌≡◌, ℕ, ◌<◌, Option, List, length}
use Rattle.gh_base.specs.Networks.{Network}
use Rattle.landmark_choice.specs.Parts.{IsBarred}
use Rattle.landmark_prep.specs.Preparations.{Preparation, nodes_of, IsPlacing, IsPrepOf}
use Rattle.landmark_prep.specs.Bounds.{AreFit}
use Rattle.landmark_prep.specs.Choosing.{AreActive}

-- a network has one preparation for a profile, a snapshot and a count
abbrev pub PreparationsAreOne : Type 0
PreparationsAreOne = (network : Network) (count : ℕ) (one other : Preparation) →
    IsPrepOf network count one → IsPrepOf network count other →
    one.profile ≡ other.profile → one.snapshot ≡ other.snapshot → one ≡ other

-- its landmarks and its grain are determined
abbrev pub PlacingsAreOne : Type 0
PlacingsAreOne = (network : Network) (count : ℕ) (landmarks others : List ℕ) (grain other : ℕ) →
    IsPlacing network count landmarks grain → IsPlacing network count others other → (landmarks ≡ others) × (grain ≡ other)

-- where a network has a preparation, not every node is barred
abbrev pub PreparedRoadsAreOpen : Type 0
PreparedRoadsAreOpen = (network : Network) (count : ℕ) (prep : Preparation) → IsPrepOf network count prep →
    ((node : ℕ) → node < network.nodes → IsBarred network node) → ⊥

-- a preparation is also the one for as many landmarks as it has
abbrev pub LandmarksAreTheCount : Type 0
LandmarksAreTheCount = (network : Network) (count : ℕ) (prep : Preparation) →
    IsPrepOf network count prep → IsPrepOf network (length prep.landmarks) prep

-- it has labels for each node
abbrev pub NodesAreLabelled : Type 0
NodesAreLabelled = (network : Network) (count : ℕ) (prep : Preparation) →
    IsPrepOf network count prep → nodes_of prep.labels ≡ network.nodes

-- its labels fit the network
abbrev pub PreparationsFit : Type 0
PreparationsFit = (network : Network) (count : ℕ) (prep : Preparation) → IsPrepOf network count prep → AreFit network prep

-- there is one list of active landmarks
abbrev pub ActiveLandmarksAreOne : Type 0
ActiveLandmarksAreOne = (bound : ℕ → Option ℕ) (count : ℕ) (one other : List ℕ) →
    AreActive bound count one → AreActive bound count other → one ≡ other
