-- What holds of roads as a rule weighs them.
use Rattle.std.specs.Prelude.{◌≡◌, ℕ, ◌<◌, Bool, true, false, not, List, [], ◌∷◌, map, length, Contains, All, Option, Some, None, IfSome, IfNone, refl}
use Rattle.std.proofs.Common.{sym, subst}
use Rattle.std.proofs.lemmas.List.Elements.{All-contains, All-map, All-weaker, All-contains_itself, All-cons, All-nil, All-rest}
use Rattle.gh_base.specs.declared.edges.DirEdge.{DirEdge}
use Rattle.gh_base.specs.declared.edges.Hop.{Hop}
use Rattle.gh_base.specs.Networks.{LeadsToNodes}
use Rattle.base_graph.specs.Graphs.{Edge, Graph, IsGraph, edge_at, head, tail, around_of}
use Rattle.base_graph.specs.Starting.{around_edge, around_head}
use Rattle.walk_rules.specs.Walks.{IsWalk}
use Rattle.weighting.specs.declared.weight_view.Side.{Side}
use Rattle.weighting.specs.declared.weight_view.Side.TheVariants.{Out, Back}
use Rattle.weighting.specs.Rules.{Rule}
use Rattle.weighting.specs.Roads.{hop_of, network_of, edges_left, AreOf, AreOver}

-- what holds of each item of a list holds of all
pub all_of : {A : Type 0} (P : A → Type 0) (xs : List A) → ((x : A) → Contains xs x → P x) → All P xs
all_of P xs h = All-weaker (Contains xs) P h xs (All-contains_itself xs)

-- the opposite starts where a directed edge leads
pub tail_of_opposite : (edge : Edge) (reverse : Bool) → tail edge (not reverse) ≡ head edge reverse
tail_of_opposite edge true = refl
tail_of_opposite edge false = refl

-- on both sides a hop leads where the directed edge that starts at the tower does
pub hop_to : (side : Side) (rule : Rule) (limits : DirEdge → ℕ) (graph : Graph) (by : DirEdge) → (hop_of side rule limits graph by).to.0 ≡ head (edge_at graph.edges by.edge.0) by.reverse
hop_to Out rule limits graph by = refl
hop_to Back rule limits graph by = tail_of_opposite (edge_at graph.edges by.edge.0) by.reverse

-- and is over its edge
pub hop_edge : (side : Side) (rule : Rule) (limits : DirEdge → ℕ) (graph : Graph) (by : DirEdge) → (hop_of side rule limits graph by).by.edge.0 ≡ by.edge.0
hop_edge Out rule limits graph by = refl
hop_edge Back rule limits graph by = refl

-- what holds of the hop of each directed edge that starts at a tower holds of each hop there
pub each_hop : (side : Side) (rule : Rule) (limits : DirEdge → ℕ) (graph : Graph) (node : ℕ) (P : Hop → Type 0)
    → ((by : DirEdge) → Contains (around_of graph node) by → P (hop_of side rule limits graph by))
    → (hop : Hop) → Contains ((network_of side rule limits graph).hops node) hop → P hop
each_hop side rule limits graph node P h hop c =
    let f = hop_of side rule limits graph in
    All-contains P (map f (around_of graph node)) hop (All-map P f (around_of graph node) (all_of (λ (by : DirEdge). P (f by)) (around_of graph node) h)) c

-- each hop leads to a tower
pub leads_to_nodes : (side : Side) (rule : Rule) (limits : DirEdge → ℕ) (graph : Graph) → IsGraph graph → LeadsToNodes (network_of side rule limits graph)
leads_to_nodes side rule limits graph facts node hop c =
    each_hop side rule limits graph node (λ (h : Hop). h.to.0 < length graph.places)
    (λ by b. subst (λ (n : ℕ). n < length graph.places) (sym (hop_to side rule limits graph by)) (around_head graph node by facts b)) hop c

-- what starts at a tower is among the graph's edges
pub around_known : (graph : Graph) → IsGraph graph → (node : ℕ) → AreOf graph (around_of graph node)
around_known graph facts node = all_of (λ (by : DirEdge). by.edge.0 < length graph.edges) (around_of graph node) (λ by b. around_edge graph node by facts b)

-- a hop of a tower is over an edge of the graph
pub hop_over : (side : Side) (rule : Rule) (limits : DirEdge → ℕ) (graph : Graph) → IsGraph graph → (node : ℕ) (hop : Hop) → Contains ((network_of side rule limits graph).hops node) hop → hop.by.edge.0 < length graph.edges
hop_over side rule limits graph facts node hop c =
    each_hop side rule limits graph node (λ (h : Hop). h.by.edge.0 < length graph.edges)
    (λ by b. subst (λ (n : ℕ). n < length graph.edges) (sym (hop_edge side rule limits graph by)) (around_edge graph node by facts b)) hop c

-- so are all hops of a walk
pub walk_over : (side : Side) (rule : Rule) (limits : DirEdge → ℕ) (graph : Graph) → IsGraph graph → (from to : ℕ) (hops : List Hop) → IsWalk (network_of side rule limits graph) from hops to → AreOver graph hops
walk_over side rule limits graph facts from to [] w = All-nil (λ (h : Hop). h.by.edge.0 < length graph.edges)
walk_over side rule limits graph facts from to (hop ∷ hops) w =
    All-cons (λ (h : Hop). h.by.edge.0 < length graph.edges) hop hops (hop_over side rule limits graph facts from hop w.0)
    (walk_over side rule limits graph facts hop.to.0 to hops w.2)

-- what is left to give after a start
pub known_at_start : (graph : Graph) → IsGraph graph → (node : ℕ) (list : List DirEdge) → list ≡ around_of graph node → AreOf graph list
known_at_start graph facts node list e = rw e (around_known graph facts node)

-- and after one is given
pub known_after : (graph : Graph) (around : Option (List DirEdge)) (old new : List DirEdge) (by : DirEdge) → AreOf graph (edges_left around) → around ≡ Some old → old ≡ by ∷ new → AreOf graph new
known_after graph around old new by known some e =
    let before : AreOf graph old = rw some at known in
    All-rest (λ (b : DirEdge). b.edge.0 < length graph.edges) by new old e before

-- or none is
pub known_next : (graph : Graph) (around : Option (List DirEdge)) (old new : List DirEdge) (given : Option DirEdge) → AreOf graph (edges_left around) → around ≡ Some old → IfSome given (λ by. old ≡ by ∷ new) → IfNone given (new ≡ []) → AreOf graph new
known_next graph around old new None known some given none = rw none (All-nil (λ (b : DirEdge). b.edge.0 < length graph.edges))
known_next graph around old new (Some by) known some given none = known_after graph around old new by known some given
