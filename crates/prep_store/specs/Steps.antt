-- Private: what loops over hops compute, and how a list is kept.
use Rattle.std.specs.Prelude.{◌≡◌, ◌⊎◌, ◌++◌, ℕ, ◌<◌, ◌≤◌, ◌==◌, Bool, true, false, Option, Some, None, unwrap_or, List, ◌∷◌, length, map, All, Contains, slice_index}
use Rattle.std.specs.List.{AllZip}
use Rattle.gh_base.specs.declared.edges.DirEdge.{DirEdge}
use Rattle.gh_base.specs.declared.edges.Hop.{Hop}
use Rattle.gh_base.specs.Networks.{Network}
use Rattle.landmark_prep.specs.declared.labels.PackedLabels.{PackedLabels}
use Rattle.landmark_prep.specs.Packing.{unpacked_labels, AreLong}
use Rattle.landmark_prep.specs.Preparations.{IsPlacing}
use Rattle.byteorder.specs.Endian.{big_bytes}
use Rattle.traffic_core.specs.History.{index_of}
use Rattle.prep_store.specs.declared.item.Item.{Item}
use Rattle.prep_store.specs.declared.fault.PrepFault.{PrepFault}
use Rattle.prep_store.specs.declared.fault.PrepFault.TheVariants as faults
use Rattle.prep_store.specs.Stores.{words, Lists, lists_text, AreEvidence, AreOfLists}
use Rattle.prep_store.specs.FirstFaults.{Behind, FailsInLandmarks, FailsInGrain, FailsInLists}
use Rattle.prep_store.specs.Evidence.{label_in, label_after, is_open}

-- a list of items, of roads with so many nodes
pub record Listed : Type 0 where
  pub nodes : ℕ
  pub items : List Item

-- the number that stands for a node's label; 65535 is none
abbrev pub number_in : List Item → ℕ → ℕ
number_in items node = unwrap_or (label_in items node) 65535

-- an item of one of so many nodes, whose label isn't that which stands for none
pub record IsItem (nodes : ℕ) (item : Item) : Type 0 where
  pub node : item.node.0 < nodes
  pub label : item.label < 65535

-- a number for each node by the items
pub record IsRow (row : List ℕ) (items : List Item) : Type 0 where
  pub each : (node : ℕ) → node < length row → slice_index row node ≡ number_in items node
  pub are_items : All (IsItem (length row)) items

-- whether a weight from a node with a label gives another label
abbrev pub gives : ℕ → Option ℕ → Option ℕ → ℕ → Bool
gives grain None weight label = false
gives grain (Some tail) None label = false
gives grain (Some tail) (Some weight) label = label == label_after grain tail weight

-- whether a hop, turned round, gives a label from its head's
abbrev pub gives_back : ℕ → List Item → ℕ → Hop → Bool
gives_back grain items label hop = gives grain (label_in items hop.to.0) hop.weight label

-- the hops of a node that are left, of which those before gave no label
pub record IsStillSought (grain : ℕ) (items : List Item) (label : ℕ) (hops left : List Hop) : Type 0 where
  pub rest : (hop : Hop) → Contains left hop → Contains hops hop
  pub none : (hop : Hop) → Contains hops hop → gives_back grain items label hop ≡ true → Contains left hop

-- the least directed edge of the open hops of a node but for those that are left
pub record IsLeastSoFar (grain : ℕ) (items : List Item) (node : ℕ) (hops left : List Hop) (first : Option DirEdge) : Type 0 where
  pub rest : (hop : Hop) → Contains left hop → Contains hops hop
  pub found : (edge : DirEdge) → first ≡ Some edge → (hop : Hop) × Contains hops hop × (is_open grain items node hop ≡ true) × (hop.by ≡ edge)
  pub least : (hop : Hop) → Contains hops hop → is_open grain items node hop ≡ true → Contains left hop ⊎ ((edge : DirEdge) × (first ≡ Some edge) × (index_of edge ≤ index_of hop.by))

-- bytes, as numbers
abbrev pub IsEachByte : List ℕ → Type 0
IsEachByte xs = (k : ℕ) → slice_index xs k < 256

-- the lists of landmarks that were read, and their labels as they are kept
pub record AreRead (network back : Network) (grain : ℕ) (landmarks : List ℕ) (lists : List Lists) (table : List PackedLabels) : Type 0 where
  pub evidence : AllZip (AreEvidence network back grain) landmarks lists
  pub labels : AllZip (AreOfLists network.nodes grain) lists (map (unpacked_labels grain) table)
  pub long : All (AreLong network.nodes) table

-- what was read behind the limits: as many landmarks as were said, where they are placed, their grain, and their lists
pub record IsBehindLimits (network back : Network) (count : ℕ) (landmarks : List ℕ) (grain : ℕ) (lists : List Lists) (table : List PackedLabels) : Type 0 where
  pub all : length landmarks ≡ count
  pub placing : IsPlacing network count landmarks grain
  pub read : AreRead network back grain landmarks lists table

abbrev pub text_behind : List ℕ → ℕ → List Lists → List ℕ
text_behind landmarks grain lists = words landmarks ++ (big_bytes 8 grain ++ lists_text lists)

-- what fails behind the landmarks
pub record FailsBehindLandmarks (network back : Network) (count total : ℕ) (rest : List ℕ) (fault : PrepFault) : Type 0 where
  pub landmarks : List ℕ
  pub grain : ℕ
  pub after : List ℕ
  pub bytes : rest ≡ words landmarks ++ after
  pub all : length landmarks ≡ count
  pub placing : IsPlacing network count landmarks grain
  pub fails : FailsInGrain grain total after fault
      ⊎ Behind (big_bytes 8 grain) after (λ more. FailsInLists network back grain landmarks total more fault)

abbrev pub FailsBehindLimits : Network → Network → ℕ → ℕ → List ℕ → PrepFault → Type 0
FailsBehindLimits network back count total rest fault =
    FailsInLandmarks network count total rest fault ⊎ FailsBehindLandmarks network back count total rest fault

-- a byte is left
abbrev pub IsLeft : List ℕ → PrepFault → Type 0
IsLeft rest fault = (byte : ℕ) × (more : List ℕ) × (rest ≡ byte ∷ more) × (fault ≡ faults.After)
