-- Half-edges: edge e has two, 2e that leaves its base, and 2e + 1 that leaves its adjacent end. A link
-- is the number of a half-edge plus 1; 0 ends a list.
use Rattle.std.specs.Prelude.{ℕ, zero, suc, ◌*◌, ◌/◌, ◌%◌, ◌==◌, if◌then◌else◌, List, [], ◌∷◌, length, map}
use Rattle.std.specs.List.{range_with_len}
use Rattle.gh_base.specs.declared.edges.DirEdge.{DirEdge}
use Rattle.gh_base.specs.declared.map.Point.{Point}
use Rattle.base_graph.specs.Graphs.{Edge, Graph, tail, edge_at, directed}

-- a value for each number below another, in order
abbrev pub numbered : {X : Type 0} → (ℕ → X) → ℕ → List X
numbered value n = map value (range_with_len 0 n)

-- a half-edge as a directed edge
abbrev pub half : ℕ → DirEdge
half h = directed (h / 2) (h % 2 == 1)

-- the half-edges below a number that leave a tower, the last first; h leaves the tower `leaves h`
abbrev pub halves_below : (ℕ → ℕ) → ℕ → ℕ → List DirEdge
halves_below leaves tower zero = []
halves_below leaves tower (suc h) =
    if leaves h == tower then half h ∷ halves_below leaves tower h else halves_below leaves tower h

-- the link to the first of them
abbrev pub link_below : (ℕ → ℕ) → ℕ → ℕ → ℕ
link_below leaves tower zero = 0
link_below leaves tower (suc h) = if leaves h == tower then suc h else link_below leaves tower h

-- the list that a link begins: the half-edges that leave the same tower, from its own down
abbrev pub list_from : (ℕ → ℕ) → ℕ → List DirEdge
list_from leaves zero = []
list_from leaves (suc h) = halves_below leaves (leaves h) (suc h)

-- the tower that a half-edge of a graph leaves
abbrev pub tower_left : List Edge → ℕ → ℕ
tower_left edges h = tail (edge_at edges (h / 2)) (h % 2 == 1)

-- all that leaves a tower, the newest first
abbrev pub leaving : List Edge → ℕ → List DirEdge
leaving edges tower = halves_below (tower_left edges) tower (2 * length edges)

-- the graph of these places and edges
abbrev pub graph_of : List Point → List Edge → Graph
graph_of places edges = record {
  places = places;
  edges = edges;
  around = numbered (leaving edges) (length places);
}
