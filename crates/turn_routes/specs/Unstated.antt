-- What a search by states finds, and what it is from tower to tower.
use Rattle.std.specs.Prelude.{◌≡◌, ◌↔◌, ◌≤◌, ℕ, Option, List, [], ◌∷◌, ◌++◌, length, map}
use Rattle.gh_base.specs.declared.edges.Hop.{Hop}
use Rattle.gh_base.specs.Networks.{Network}
use Rattle.walk_rules.specs.Walks.{IsWalk, weight_of, IsAtMostEachWalk, NoWalk}
use Rattle.walk_rules.specs.Starts.{StartsWithin, StartsAtAll}
use Rattle.base_graph.specs.Graphs.{Graph}
use Rattle.alt_search.specs.declared.finding.Found.{Found}
use Rattle.alt_search.specs.declared.finding.Found.TheVariants.{Walk as AWalk, NoWalk as Barred}
use Rattle.alt_search.specs.Findings.{IfWalk, IfNoWalk, IsNoWalk}
use Rattle.turn_graph.specs.Restrictions.{end_of}

-- what a search finds in a network from a start to a target; a part holds where the bound is feasible
pub record IsFoundIn (network : Network) (bound : ℕ → Option ℕ) (start target : ℕ) (Feasible : Type 0) (found : Found) : Type 0 where
  pub walk : IfWalk found (λ hops weight _. IsWalk network start hops target × (weight_of hops ≡ weight))
  pub long : IfWalk found (λ hops _ settled. length hops ≤ settled)
  pub least : Feasible → IfWalk found (λ _ weight _. IsAtMostEachWalk network start target weight)
  pub none : Feasible → IsNoWalk found ↔ NoWalk network start target
  pub within : Feasible → IfWalk found (λ _ weight settled. StartsWithin network bound start target weight settled)
  pub all : Feasible → IfNoWalk found (λ settled. StartsAtAll network bound start target settled)

-- a hop over the same directed edge, to the tower where that ends
abbrev pub tower_hop : Graph → Hop → Hop
tower_hop graph hop = record { to = record { 0 = end_of graph hop.by }; by = hop.by; weight = hop.weight }

-- these hops are those from tower to tower, without the last
abbrev pub AreByTowers : Graph → List Hop → List Hop → Type 0
AreByTowers graph hops out = (walk : List Hop) (last : Hop) → hops ≡ walk ++ last ∷ [] → out ≡ map (tower_hop graph) walk

pub record IsSameWalk (graph : Graph) (hops_in : List Hop) (weight_in settled_in : ℕ) (out : List Hop) (its_weight its_settled : ℕ) : Type 0 where
  pub hops : AreByTowers graph hops_in out
  pub no_longer : length out ≤ length hops_in
  pub weight : its_weight ≡ weight_in
  pub settled : its_settled ≡ settled_in

-- the same walk from tower to tower, or none too
abbrev pub IsByTowers : Graph → Found → Found → Type 0
IsByTowers graph (AWalk hops weight settled) (AWalk out its_weight its_settled) = IsSameWalk graph hops weight settled out its_weight its_settled
IsByTowers graph (AWalk hops weight settled) (Barred its_settled) = ⊥
IsByTowers graph (Barred settled) (AWalk out its_weight its_settled) = ⊥
IsByTowers graph (Barred settled) (Barred its_settled) = its_settled ≡ settled
