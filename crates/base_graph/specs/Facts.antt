-- The facts of a graph have one proof, and the points of its edges are the earth's.
use Rattle.std.specs.Prelude.{ℕ, ◌<◌, Bool, true, false, length, All, [], ◌∷◌, ◌++◌}
use Rattle.std.proofs.Props.{props}
use Rattle.std.proofs.lemmas.List.Elements.{All-get_or, All-append, All-cons, All-nil}
use Rattle.gh_base.specs.Places.{IsOnEarth}
use Rattle.encoded_values.specs.Values.{AreInRange}
use Rattle.base_graph.specs.Graphs.{Graph, IsGraph, IsEdge, edge_at, no_edge, points_of, place_of, values_along}

pub IsGraph-prop : (graph : Graph) → IsProp (IsGraph graph)
IsGraph-prop graph = hlevel props

-- a tower stands on the earth
pub place_on_earth : (graph : Graph) (node : ℕ) → IsGraph graph → node < length graph.places → IsOnEarth (place_of graph node)
place_on_earth graph node facts there = All-get_or IsOnEarth graph.places node _ there facts.places

-- an edge is one between towers
pub edge_is : (graph : Graph) (edge : ℕ) → IsGraph graph → edge < length graph.edges → IsEdge (length graph.places) (edge_at graph.edges edge)
edge_is graph edge facts there = All-get_or (IsEdge (length graph.places)) graph.edges edge no_edge there facts.edges

-- its values are in their ranges, in either direction
pub values_in_range : (graph : Graph) (edge : ℕ) (reverse : Bool) → IsGraph graph → edge < length graph.edges → AreInRange (values_along (edge_at graph.edges edge) reverse)
values_in_range graph edge true facts there = (edge_is graph edge facts there).values.reverse
values_in_range graph edge false facts there = (edge_is graph edge facts there).values.forward

-- its points are the earth's
pub points_on_earth : (graph : Graph) (edge : ℕ) → IsGraph graph → edge < length graph.edges → All IsOnEarth (points_of graph edge)
points_on_earth graph n facts there =
    let edge = edge_at graph.edges n in
    let e = edge_is graph n facts there in
    let from = place_of graph edge.base.0 in
    let to = place_of graph edge.adjacent.0 in
    let last : All IsOnEarth (to ∷ []) = All-cons IsOnEarth to [] (place_on_earth graph edge.adjacent.0 facts e.adjacent) (All-nil IsOnEarth) in
    let rest : All IsOnEarth (edge.between ++ to ∷ []) = All-append IsOnEarth edge.between (to ∷ []) e.between last in
    All-cons IsOnEarth from (edge.between ++ to ∷ []) (place_on_earth graph edge.base.0 facts e.base) rest
