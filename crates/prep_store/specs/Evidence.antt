-- A list of nodes with labels that shows by itself that its labels are distances: along the list walks attain them, and no hop leads to less (shortest path trees and their optimality conditions: Cormen, Leiserson, Rivest and Stein, "Introduction to Algorithms", section 22.5).
use Rattle.std.specs.Prelude.{◌≡◌, ⊤, ℕ, ◌+◌, ◌/◌, ◌<◌, ◌≤◌, ◌==◌, min, if◌then◌else◌, Bool, true, false, Option, Some, None, List, [], ◌∷◌, ◌++◌, length, Contains}
use Rattle.std.specs.Option.{option_map}
use Rattle.gh_base.specs.declared.edges.DirEdge.{DirEdge}
use Rattle.gh_base.specs.declared.edges.Hop.{Hop}
use Rattle.gh_base.specs.Networks.{Network}
use Rattle.walk_rules.specs.Walks.{hops_from}
use Rattle.walk_rules.specs.Evidence.{is_violated}
use Rattle.walk_rules.specs.Distances.{label_at}
use Rattle.landmark_prep.specs.Packing.{in_ms}
use Rattle.traffic_core.specs.History.{index_of}
use Rattle.prep_store.specs.declared.item.Item.{Item}

-- the label of a node, in grains; none where it isn't listed
abbrev pub label_in : List Item → ℕ → Option ℕ
label_in [] node = None
label_in (item ∷ items) node = if item.node.0 == node then Some item.label else label_in items node

-- a label after a hop of so many ms, cut at the greatest number of grains
abbrev pub label_after : ℕ → ℕ → ℕ → ℕ
label_after grain label weight = min (label + weight / grain) 65534

-- a hop from a node that is listed gives an item its label
pub record IsReached (network : Network) (grain : ℕ) (listed : List Item) (item : Item) : Type 0 where
  pub node : ℕ
  pub label : ℕ
  pub label_is : label_in listed node ≡ Some label
  pub hop : Hop
  pub leaves : Contains (hops_from network node) hop
  pub leads : hop.to.0 ≡ item.node.0
  pub weight : ℕ
  pub weighs : hop.weight ≡ Some weight
  pub gives : item.label ≡ label_after grain label weight

-- which item may stand behind those before it: in front the landmark, with label 0; then one of a new node that is reached
abbrev pub MayFollow : Network → ℕ → ℕ → List Item → Item → Type 0
MayFollow network grain landmark [] item = (item.node.0 ≡ landmark) × (item.label ≡ 0)
MayFollow network grain landmark (first ∷ before) item =
    (label_in (first ∷ before) item.node.0 ≡ None) × IsReached network grain (first ∷ before) item

-- each of the items may stand behind those before it
abbrev pub MayAllFollow : Network → ℕ → ℕ → List Item → List Item → Type 0
MayAllFollow network grain landmark before [] = ⊤
MayAllFollow network grain landmark before (item ∷ items) =
    MayFollow network grain landmark before item × MayAllFollow network grain landmark (before ++ item ∷ []) items

-- a hop from a listed node leads to one that isn't listed, or whose label is over the tail's and the hop's weight in grains
abbrev pub is_open : ℕ → List Item → ℕ → Hop → Bool
is_open grain items node hop =
    is_violated (label_in items node) (option_map (λ weight. weight / grain) hop.weight) (label_in items hop.to.0)

-- no hop of a node is open
abbrev pub IsClosedAt : Network → ℕ → List Item → ℕ → Type 0
IsClosedAt network grain items node = (hop : Hop) → Contains (hops_from network node) hop → is_open grain items node hop ≡ false

-- the list shows the distances from the landmark
pub record IsEvidence (network : Network) (grain landmark : ℕ) (items : List Item) : Type 0 where
  pub some : 0 < length items
  pub order : MayAllFollow network grain landmark [] items
  pub closed : (item : Item) → Contains items item → IsClosedAt network grain items item.node.0

-- the open hop of a node over the directed edge of least number, forward before reverse
pub record IsFirstOpenAt (network : Network) (grain : ℕ) (items : List Item) (node : ℕ) (edge : DirEdge) : Type 0 where
  pub hop : Hop
  pub leaves : Contains (hops_from network node) hop
  pub opens : is_open grain items node hop ≡ true
  pub over : hop.by ≡ edge
  pub first : (other : Hop) → Contains (hops_from network node) other → is_open grain items node other ≡ true → index_of edge ≤ index_of other.by

-- the first open hop, by its tail's place in the list
pub record IsFirstOpen (network : Network) (grain : ℕ) (items : List Item) (edge : DirEdge) : Type 0 where
  pub before : List Item
  pub item : Item
  pub after : List Item
  pub split : items ≡ before ++ item ∷ after
  pub closed : (other : Item) → Contains before other → IsClosedAt network grain items other.node.0
  pub at : IsFirstOpenAt network grain items item.node.0 edge

-- the labels of so many nodes in ms: those of the list, and none for a node that isn't listed
pub record AreListed (nodes grain : ℕ) (items : List Item) (labels : List (Option ℕ)) : Type 0 where
  pub long : length labels ≡ nodes
  pub each : (node : ℕ) → label_at labels node ≡ in_ms grain (label_in items node)
