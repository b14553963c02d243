-- The ends of a walk: places at nodes or inside edges (virtual edges of GraphHopper's query graph).
use Rattle.std.specs.Prelude.{◌≡◌, ℕ, ◌+◌, ◌<◌, Bool, true, false, Option, Some, None, List, [], ◌∷◌, All, Contains}
use Rattle.gh_base.specs.declared.edges.Hop.{Hop}
use Rattle.gh_base.specs.declared.edges.Arrival.{Arrival}
use Rattle.gh_base.specs.Networks.{Network}
use Rattle.query_graph.specs.declared.ends.Leave.{Leave}
use Rattle.query_graph.specs.declared.ends.Leave.TheVariants.{Node as FromNode, Inside as FromInside}
use Rattle.query_graph.specs.declared.ends.Reach.{Reach}
use Rattle.query_graph.specs.declared.ends.Reach.TheVariants.{Node as ToNode, Inside as ToInside}

-- those that are there
abbrev pub given : {A : Type 0} → List (Option A) → List A
given [] = []
given (None ∷ xs) = given xs
given (Some x ∷ xs) = x ∷ given xs

-- the pieces out of a start inside an edge
abbrev pub ways_out : Leave → List Hop
ways_out (FromNode node) = []
ways_out (FromInside hops) = hops

-- the pieces into a target inside an edge
abbrev pub ways_in : Reach → List Arrival
ways_in (ToNode node) = []
ways_in (ToInside arrivals) = arrivals

-- the start is a node of the base, or its pieces lead to such nodes
abbrev pub LeavesIn : ℕ → Leave → Type 0
LeavesIn nodes (FromNode node) = node.0 < nodes
LeavesIn nodes (FromInside hops) = All (λ hop. hop.to.0 < nodes) hops

-- the target is a node of the base, or its pieces stand at such nodes
abbrev pub ReachesIn : ℕ → Reach → Type 0
ReachesIn nodes (ToNode node) = node.0 < nodes
ReachesIn nodes (ToInside arrivals) = All (λ arrival. arrival.at.0 < nodes) arrivals

-- both places are inside edges
abbrev pub are_inside : Leave → Reach → Bool
are_inside (FromInside hops) (ToInside arrivals) = true
are_inside from to = false

-- a direct hop is there only where both places are inside edges, and it leads to the target
abbrev pub AreDirect : ℕ → Leave → Reach → List (Option Hop) → Type 0
AreDirect nodes from to direct = (hop : Hop) → Contains (given direct) hop → (hop.to.0 ≡ nodes + 1) × (are_inside from to ≡ true)

-- the node where a walk starts: the first past the base's for a place inside an edge
abbrev pub start_in : Network → Leave → ℕ
start_in base (FromNode node) = node.0
start_in base (FromInside hops) = base.nodes

-- the node where a walk ends: the second past the base's for a place inside an edge
abbrev pub target_in : Network → Reach → ℕ
target_in base (ToNode node) = node.0
target_in base (ToInside arrivals) = base.nodes + 1

-- a piece into the target, as a hop to a node
abbrev pub hop_of : ℕ → Arrival → Hop
hop_of target arrival = record { to = record { 0 = target }; by = arrival.by; weight = arrival.weight }
