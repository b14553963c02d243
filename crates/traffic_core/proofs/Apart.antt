-- Lengths of walks by their pieces.
use Rattle.std.specs.List.{sum_by}
use Rattle.std.specs.Prelude.{slice_get}
use Rattle.std.proofs.Common.{◌≡◌, ℕ, ◌+◌, ◌-◌, ◌≤◌, Bool, true, false, List, [], ◌∷◌, ◌++◌, length, Some, refl, ap, subst, ◌∙◌, arith, length-append}
use Rattle.std.proofs.lemmas.List.Sums.{sum_by-cons, sum_by_push}
use Rattle.gh_base.specs.declared.edges.EdgeId.{EdgeId}
use Rattle.gh_base.specs.declared.edges.Hop.{Hop}
use Rattle.base_graph.specs.Graphs.{Graph, Edge, edge_at}
use Rattle.traffic_core.specs.declared.spot.Spot.TheVariants.{Inside}
use Rattle.traffic_core.specs.Trips.{edge_mm, mm_before, mm_behind, mm_behind_target, mm_behind_last}
use Rattle.traffic_core.specs.Laws.{WholeWalksAreEdges, WalksArePieces, ForwardPiecesAreApart, ReversePiecesAreApart}

pub whole : WholeWalksAreEdges
whole graph from to hops = let n : ℕ = sum_by (edge_mm graph) hops in let same : n - 0 - 0 ≡ n = omega arith in same

-- the two parts of an edge
parts : (edge : Edge) (mm : ℕ) (reverse : Bool) → mm ≤ edge.mm → mm_before edge mm reverse + mm_behind edge mm reverse ≡ edge.mm
parts edge mm true h = omega arith
parts edge mm false h = omega arith

last_at : (xs : List Hop) (y : Hop) → slice_get (xs ++ y ∷ []) (length xs) ≡ Some y
last_at [] y = refl
last_at (x ∷ xs) y = last_at xs y

long : (inner : List Hop) (first last : Hop) → length (first ∷ inner) ≡ length (first ∷ (inner ++ last ∷ [])) - 1
long inner first last = omega (arith, length-append inner (last ∷ []))

over_edge : (graph : Graph) (e : EdgeId) (hop : Hop) → hop.by.edge ≡ e → edge_mm graph hop ≡ (edge_at graph.edges e.0).mm
over_edge graph e hop same = ap (λ (id : EdgeId). (edge_at graph.edges id.0).mm) same

pub pieces : WalksArePieces
pieces graph e f x y first last inner a h b k =
    let hops : List Hop = first ∷ (inner ++ last ∷ []) in
    let sum : sum_by (edge_mm graph) hops ≡ edge_mm graph first + (sum_by (edge_mm graph) inner + edge_mm graph last) = sum_by-cons (edge_mm graph) first (inner ++ last ∷ []) ∙ ap (λ (n : ℕ). edge_mm graph first + n) (sum_by_push (edge_mm graph) inner last) in
    let end : slice_get hops (length hops - 1) ≡ Some last = subst (λ (n : ℕ). slice_get hops n ≡ Some last) (long inner first last) (last_at (first ∷ inner) last) in
    let behind : mm_behind_target graph (Inside f y) hops ≡ mm_behind (edge_at graph.edges f.0) y last.by.reverse = ap (mm_behind_last (edge_at graph.edges f.0) y) end in
    omega (arith, sum, behind, over_edge graph e first a, over_edge graph f last b, parts (edge_at graph.edges e.0) x first.by.reverse h, parts (edge_at graph.edges f.0) y last.by.reverse k)

pub forward : ForwardPiecesAreApart
forward graph e x y hop a r h k = rw r (omega (arith, over_edge graph e hop a))

pub backward : ReversePiecesAreApart
backward graph e x y hop a r h k = rw r (omega (arith, over_edge graph e hop a))
