-- Roads turned round, each over its own directed edge.
use Rattle.std.specs.Prelude.{◌≡◌, ℕ, Contains, IsSome}
use Rattle.gh_base.specs.declared.edges.Hop.{Hop}
use Rattle.gh_base.specs.Networks.{Network}
use Rattle.walk_rules.specs.Walks.{hops_from}

-- for each hop with a weight there is one the other way, over the same directed edge and of that weight
abbrev pub HasEachTurned : Network → Network → Type 0
HasEachTurned network back = (node : ℕ) (hop : Hop) → Contains (hops_from network node) hop → IsSome hop.weight →
    (other : Hop) × Contains (hops_from back hop.to.0) other × (other.to.0 ≡ node) × (other.by ≡ hop.by) × (other.weight ≡ hop.weight)

-- the one is the other turned round
pub record IsTurned (out back : Network) : Type 0 where
  pub nodes : back.nodes ≡ out.nodes
  pub there : HasEachTurned out back
  pub here : HasEachTurned back out
