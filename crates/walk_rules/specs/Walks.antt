-- Walks over a network, and what is least among them (a directed graph's walks and shortest paths, as in Goldberg and Harrelson 2005, section 2).
use Rattle.std.specs.Prelude.{◌≡◌, ℕ, ◌+◌, ◌≤◌, List, [], ◌∷◌, IsSome, Contains, unwrap_or}
use Rattle.gh_base.specs.declared.edges.Hop.{Hop}
use Rattle.gh_base.specs.Networks.{Network}

-- the hops of a node
abbrev pub hops_from : Network → ℕ → List Hop
hops_from network node = network.hops node

-- hops that join, each with a weight, from one node to another; none where both are the same node
abbrev pub IsWalk : Network → ℕ → List Hop → ℕ → Type 0
IsWalk network from [] to = from ≡ to
IsWalk network from (hop ∷ hops) to = Contains (hops_from network from) hop × IsSome hop.weight × IsWalk network hop.to.0 hops to

-- the weight of a hop that has one
abbrev pub cost : Hop → ℕ
cost hop = unwrap_or hop.weight 0

-- the weight of a walk: the sum of those of its hops
abbrev pub weight_of : List Hop → ℕ
weight_of [] = 0
weight_of (hop ∷ hops) = cost hop + weight_of hops

-- no walk leads there
abbrev pub NoWalk : Network → ℕ → ℕ → Type 0
NoWalk network from to = (hops : List Hop) → IsWalk network from hops to → ⊥

-- no walk weighs less than this
abbrev pub IsAtMostEachWalk : Network → ℕ → ℕ → ℕ → Type 0
IsAtMostEachWalk network from to weight = (others : List Hop) → IsWalk network from others to → weight ≤ weight_of others

-- a walk, and none between the same nodes weighs less
pub record IsLeast (network : Network) (from : ℕ) (hops : List Hop) (to : ℕ) : Type 0 where
  pub walk : IsWalk network from hops to
  pub least : IsAtMostEachWalk network from to (weight_of hops)

-- the weight of a least walk
pub record IsLeastWeight (network : Network) (from to weight : ℕ) : Type 0 where
  pub hops : List Hop
  pub is_least : IsLeast network from hops to
  pub weight_is : weight_of hops ≡ weight

-- for each hop with a weight there is one the other way, of that weight
abbrev pub HasEachBack : Network → Network → Type 0
HasEachBack network back = (node : ℕ) (hop : Hop) → Contains (hops_from network node) hop → IsSome hop.weight →
    (other : Hop) × Contains (hops_from back hop.to.0) other × (other.to.0 ≡ node) × (other.weight ≡ hop.weight)

-- the one is the other turned round
pub record AreTurned (out back : Network) : Type 0 where
  pub nodes : back.nodes ≡ out.nodes
  pub there : HasEachBack out back
  pub here : HasEachBack back out

-- each hop with a weight stands for one of the base to the same node that weighs no more
abbrev pub IsNoFaster : Network → Network → Type 0
IsNoFaster base network = (node : ℕ) (hop : Hop) → Contains (hops_from network node) hop → IsSome hop.weight →
    (other : Hop) × Contains (hops_from base node) other × IsSome other.weight × (other.to.0 ≡ hop.to.0) × (cost other ≤ cost hop)
