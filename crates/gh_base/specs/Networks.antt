-- What a view shows: a directed graph whose edges, the hops, may have a weight (GraphHopper's base graph, seen from its nodes).
use Rattle.std.specs.Prelude.{ℕ, ◌<◌, Bool, cond, List, [], ◌∷◌, Contains}
use Rattle.gh_base.specs.declared.edges.Hop.{Hop}

-- how many nodes there are, numbered from 0, and the hops that leave each of them
pub record Network : Type 0 where
  pub nodes : ℕ
  pub hops : ℕ → List Hop

-- each hop leads to a node
abbrev pub LeadsToNodes : Network → Type 0
LeadsToNodes network = (node : ℕ) (hop : Hop) → Contains (network.hops node) hop → hop.to.0 < network.nodes

-- the hops from the first one on that leads to a node which is not unwanted
abbrev pub wanted_from : (ℕ → Bool) → List Hop → List Hop
wanted_from is_unwanted [] = []
wanted_from is_unwanted (hop ∷ hops) = cond (is_unwanted hop.to.0) (wanted_from is_unwanted hops) (hop ∷ hops)
