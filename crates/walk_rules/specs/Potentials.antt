-- Potentials that never say more than what is left to the target (feasible, or consistent: Goldberg and Harrelson 2005, section 2.2).
use Rattle.std.specs.Prelude.{◌≡◌, ℕ, ◌+◌, ◌≤◌, Option, Some, Contains, IsSome}
use Rattle.gh_base.specs.declared.edges.Hop.{Hop}
use Rattle.gh_base.specs.Networks.{Network}
use Rattle.walk_rules.specs.Walks.{hops_from, cost}

-- where the second is there the first is too, over it by no more than a weight
abbrev pub IsWithin : ℕ → Option ℕ → Option ℕ → Type 0
IsWithin weight first second = (y : ℕ) → second ≡ Some y → (x : ℕ) × (first ≡ Some x) × (x ≤ weight + y)

-- along each hop with a weight it falls by no more than that weight; a node with none can't come to a node that has one
abbrev pub FallsAlong : Network → (ℕ → Option ℕ) → Type 0
FallsAlong network bound = (node : ℕ) (hop : Hop) → Contains (hops_from network node) hop → IsSome hop.weight →
    IsWithin (cost hop) (bound node) (bound hop.to.0)

-- along each hop with a weight it rises by no more than that weight
abbrev pub RisesAlong : Network → (ℕ → Option ℕ) → Type 0
RisesAlong network label = (node : ℕ) (hop : Hop) → Contains (hops_from network node) hop → IsSome hop.weight →
    IsWithin (cost hop) (label hop.to.0) (label node)

-- feasible for a target: 0 there, and it falls along each hop by no more than the hop's weight
pub record IsFeasible (network : Network) (bound : ℕ → Option ℕ) (target : ℕ) : Type 0 where
  pub at_target : bound target ≡ Some 0
  pub along : FallsAlong network bound

-- 0 at each node
abbrev pub flat : ℕ → Option ℕ
flat node = Some 0
