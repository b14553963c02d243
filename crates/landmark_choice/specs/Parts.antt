-- Parts of roads: nodes that hops with a weight join, whichever way they lead (weakly connected components).
use Rattle.std.specs.Prelude.{◌≡◌, ◌↔◌, ℕ, ◌<◌, ◌≤◌, ◌⊎◌, Bool, true, List, [], ◌∷◌, Contains, IsSome}
use Rattle.gh_base.specs.declared.edges.Hop.{Hop}
use Rattle.gh_base.specs.Networks.{Network}
use Rattle.walk_rules.specs.Starts.{count_below}

-- a hop with a weight leads from one node to another
abbrev pub IsLinked : Network → ℕ → ℕ → Type 0
IsLinked network from to = (from < network.nodes) × (hop : Hop) × Contains (network.hops from) hop × IsSome hop.weight × (hop.to.0 ≡ to)

-- nodes of which each is linked with the next, one way or the other
abbrev pub IsChain : Network → ℕ → List ℕ → ℕ → Type 0
IsChain network from [] to = from ≡ to
IsChain network from (next ∷ rest) to = (IsLinked network from next ⊎ IsLinked network next from) × IsChain network next rest to

abbrev pub AreInOnePart : Network → ℕ → ℕ → Type 0
AreInOnePart network one other = (between : List ℕ) × IsChain network one between other

-- how many nodes are in the part of a node
pub record IsPartSize (network : Network) (node size : ℕ) : Type 0 where
  pub test : ℕ → Bool
  pub decides : (other : ℕ) → other < network.nodes → (test other ≡ true) ↔ AreInOnePart network node other
  pub count : size ≡ count_below test network.nodes

-- the least node of the part with most nodes, on a tie of the part with the least node
pub record IsLargestPart (network : Network) (node : ℕ) : Type 0 where
  pub within : node < network.nodes
  pub size : ℕ
  pub size_is : IsPartSize network node size
  pub others : (other m : ℕ) → other < network.nodes → IsPartSize network other m → (m < size) ⊎ ((m ≡ size) × (node ≤ other))

-- some hop of a node has a weight
abbrev pub HasOpenHop : Network → ℕ → Type 0
HasOpenHop network node = (hop : Hop) × Contains (network.hops node) hop × IsSome hop.weight

-- a hop of some node has a weight
abbrev pub SomeHopIsOpen : Network → Type 0
SomeHopIsOpen network = (node : ℕ) × (node < network.nodes) × HasOpenHop network node

-- no hop of a node has a weight
abbrev pub IsBarred : Network → ℕ → Type 0
IsBarred network node = (hop : Hop) → Contains (network.hops node) hop → IsSome hop.weight → ⊥
