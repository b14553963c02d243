-- What a grid is built of: a graph whose edges are as long as their lines.
use Rattle.std.specs.Prelude.{◌≡◌, ℕ, ◌+◌, ◌*◌, ◌/◌, ◌<◌, ◌≤◌, ◌==◌, Bool, true, List, [], ◌∷◌, ◌++◌, length, All, slice_index_or, pos}
use Rattle.std.specs.List.{list_any}
use Rattle.std.proofs.Common.{ap, sym, ◌∙◌, arith, inl, inr, length-append}
use Rattle.std.proofs.Props.{props}
use Rattle.std.proofs.lemmas.Bool.{cases_lt}
use Rattle.std.proofs.Math.Seq.{get_or-append_seam}
use Rattle.std.proofs.lemmas.List.{get_or_append_left}
use Rattle.gh_base.specs.declared.map.Point.{Point}
use Rattle.base_graph.specs.Graphs.{Edge, Graph, edge_at, no_edge, place_of, points_along, points_of}
use Rattle.geo_math.specs.Lengths.{line_length}
use Rattle.location_grid.specs.Boxes.{IsIn, MeetsEarth}
use Rattle.location_grid.specs.declared.bounds.Bounds.{Bounds}
use Rattle.location_grid.specs.declared.grid.Grid.{Grid}
use Rattle.location_grid.specs.declared.order.Placed.{Placed}

-- each edge's length is the sum of its segments' lengths
pub record HasLineLengths (graph : Graph) : Type 0 where
  pub lengths : (edge : ℕ) → edge < length graph.edges → (edge_at graph.edges edge).mm ≡ line_length (points_of graph edge)

-- an entry of the order stands for an edge of the graph
abbrev pub IsEdgeOf : Graph → Placed → Type 0
IsEdgeOf graph placed = placed.edge.0 < length graph.edges

-- an order has an edge
abbrev pub holds : List Placed → ℕ → Bool
holds order edge = list_any (λ placed. placed.edge.0 == edge) order

-- the edge at a place of the order
abbrev pub edge_in : List Placed → ℕ → ℕ
edge_in order place = (slice_index_or order place (record { key = 0; edge = record { 0 = 0 } })).edge.0

-- the box of a cell
abbrev pub box_at : List Bounds → ℕ → Bounds
box_at boxes cell = slice_index_or boxes cell (record { south = pos 0; north = pos 0; west = pos 0; east = pos 0 })

-- each of an order's edges lies in the box of its cell: there are 32 in a cell
abbrev pub AreRound : Graph → List Placed → List Bounds → Type 0
AreRound graph order boxes = (place : ℕ) → place < length order → All (IsIn (box_at boxes (place / 32))) (points_of graph (edge_in order place))

-- a grid of a graph: its order has each edge and no others, and each lies in the box of its cell
pub record IsGridOf (graph : Graph) (grid : Grid) : Type 0 where
  pub lengths : HasLineLengths graph
  pub edges : All (IsEdgeOf graph) grid.order.items
  pub holds_all : (edge : ℕ) → edge < length graph.edges → holds grid.order.items edge ≡ true
  pub round : AreRound graph grid.order.items grid.boxes.items
  pub earth : All MeetsEarth grid.boxes.items
  pub enough : length grid.order.items ≤ 32 * length grid.boxes.items
  pub few : 32 * length grid.boxes.items < length grid.order.items + 32

-- there is one proof of that
pub IsGridOf-prop : (graph : Graph) (grid : Grid) → IsProp (IsGridOf graph grid)
IsGridOf-prop graph grid = hlevel props

-- a graph without edges has them
pub lengths_of_none : (graph : Graph) → graph.edges ≡ [] → HasLineLengths graph
lengths_of_none graph none = record { lengths = λ edge there. absurd (let short = ap (λ (edges : List Edge). length edges) none in omega arith) }

same_along : (before graph : Graph) (edge : Edge) → graph.places ≡ before.places → points_along before edge ≡ points_along graph edge
same_along before graph edge places =
    let at : (n : ℕ) → place_of before n ≡ place_of graph n = λ n. ap (λ (list : List Point). slice_index_or list n (record { lat = pos 0; lon = pos 0 })) (sym places) in
    cc (at edge.base.0, at edge.adjacent.0)

-- and so has one with one more edge, as long as its line
pub lengths_more : (before graph : Graph) (edge : Edge) → HasLineLengths before → graph.places ≡ before.places → graph.edges ≡ before.edges ++ edge ∷ [] → edge.mm ≡ line_length (points_along before edge) → HasLineLengths graph
lengths_more before graph edge has places edges long = record {
  lengths = λ n there. elim (cases_lt n (length before.edges)) [
    | inl old ↦
        let at : edge_at graph.edges n ≡ edge_at before.edges n = rw edges (get_or_append_left before.edges (edge ∷ []) no_edge n old) in
        rw at (has.lengths n old ∙ ap line_length (same_along before graph (edge_at before.edges n) places))
    | inr late ↦
        let count = ap (λ (list : List Edge). length list) edges in
        let more = length-append before.edges (edge ∷ []) in
        let last : n ≡ length before.edges = omega arith in
        let at : edge_at graph.edges n ≡ edge = rw (edges, last) (get_or-append_seam before.edges edge [] no_edge) in
        rw at (long ∙ ap line_length (same_along before graph edge places))
  ];
}
