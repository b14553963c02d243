-- Walks between two places that may lie inside edges: over whole edges, but for a first and a last piece (OpenLR's and GraphHopper's paths from point to point).
use Rattle.std.specs.Prelude.{◌≡◌, ℕ, ◌+◌, ◌⊎◌, Option, List, [], ◌∷◌, ◌++◌, Contains, IsSome}
use Rattle.gh_base.specs.declared.edges.Hop.{Hop}
use Rattle.gh_base.specs.declared.edges.Arrival.{Arrival}
use Rattle.gh_base.specs.Networks.{Network}
use Rattle.walk_rules.specs.Walks.{IsWalk}
use Rattle.query_graph.specs.declared.ends.Leave.{Leave}
use Rattle.query_graph.specs.declared.ends.Leave.TheVariants.{Node as FromNode, Inside as FromInside}
use Rattle.query_graph.specs.declared.ends.Reach.{Reach}
use Rattle.query_graph.specs.declared.ends.Reach.TheVariants.{Node as ToNode, Inside as ToInside}
use Rattle.query_graph.specs.Ends.{given, hop_of}

-- a walk over whole edges, and then a piece into the target
pub record WalksIn (base : Network) (node : ℕ) (arrivals : List Arrival) (hops : List Hop) : Type 0 where
  pub inner : List Hop
  pub arrival : Arrival
  pub way : Contains arrivals arrival
  pub has_weight : IsSome arrival.weight
  pub walk : IsWalk base node inner arrival.at.0
  pub hops_are : hops ≡ inner ++ hop_of (base.nodes + 1) arrival ∷ []

-- from a node of the base to where the walk ends
abbrev pub Arrives : Network → ℕ → Reach → List Hop → Type 0
Arrives base node (ToNode target) hops = IsWalk base node hops target.0
Arrives base node (ToInside arrivals) hops = WalksIn base node arrivals hops

-- a piece out of the start, and then on
pub record WalksOut (base : Network) (ways : List Hop) (to : Reach) (hops : List Hop) : Type 0 where
  pub first : Hop
  pub rest : List Hop
  pub way : Contains ways first
  pub has_weight : IsSome first.weight
  pub walk : Arrives base first.to.0 to rest
  pub hops_are : hops ≡ first ∷ rest

-- one direct piece
pub record IsDirect (direct : List (Option Hop)) (hops : List Hop) : Type 0 where
  pub hop : Hop
  pub way : Contains (given direct) hop
  pub has_weight : IsSome hop.weight
  pub hops_are : hops ≡ hop ∷ []

-- a walk between two places: over whole edges, but for a first and a last piece where they lie inside edges, or one direct piece
abbrev pub IsBetween : Network → Leave → Reach → List (Option Hop) → List Hop → Type 0
IsBetween base (FromNode node) to direct hops = Arrives base node.0 to hops
IsBetween base (FromInside ways) to direct hops = WalksOut base ways to hops ⊎ IsDirect direct hops
