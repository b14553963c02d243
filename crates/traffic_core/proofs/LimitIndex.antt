-- Limits by directed edge, and by index: those that edges open with, and lists that agree.
use Rattle.std.proofs.Common.{◌≡◌, ℕ, ◌+◌, ◌*◌, ◌/◌, ◌%◌, ◌<◌, ◌≤◌, Bool, true, false, if◌then◌else◌, List, [], ◌∷◌, length, get_or, refl, sym, subst, inl, inr, arith, zero, suc}
use Rattle.std.proofs.lemmas.Bool.{cases_lt}
use Rattle.gh_base.specs.declared.edges.DirEdge.{DirEdge}
use Rattle.encoded_values.specs.Values.{opening}
use Rattle.base_graph.specs.Graphs.{Graph, Edge, no_edge, edge_at, values_along}
use Rattle.weighting.specs.Roads.{opening_of}
use Rattle.traffic_core.specs.History.{index_of, limit_in, AreLimitsAfter}
use Rattle.traffic_core.specs.Rows.{opening_limits}

-- each index is a directed edge's
pub directed : (i : ℕ) → (by : DirEdge) × (index_of by ≡ i)
directed i = elim (cases_lt (i % 2) 1) [
  | inl forward ↦ (record { edge = record { 0 = i / 2 }; reverse = false }, omega arith)
  | inr reverse ↦ (record { edge = record { 0 = i / 2 }; reverse = true }, omega arith)
]

pub length-opening_limits : (edges : List Edge) → length (opening_limits edges) ≡ 2 * length edges
length-opening_limits [] = refl
length-opening_limits (edge ∷ rest) = let e = length-opening_limits rest in omega arith

-- two for each edge, forward first
forward_at : (edges : List Edge) (n : ℕ) → get_or (opening_limits edges) (2 * n) 0 ≡ opening (edge_at edges n).values.forward
unfolding no_edge
forward_at [] n = refl
forward_at (edge ∷ rest) zero = refl
forward_at (edge ∷ rest) (suc n) =
    let e : 2 * suc n ≡ suc (suc (2 * n)) = omega arith in rw e (forward_at rest n)

reverse_at : (edges : List Edge) (n : ℕ) → get_or (opening_limits edges) (2 * n + 1) 0 ≡ opening (edge_at edges n).values.reverse
unfolding no_edge
reverse_at [] n = refl
reverse_at (edge ∷ rest) zero = refl
reverse_at (edge ∷ rest) (suc n) =
    let e : 2 * suc n + 1 ≡ suc (suc (2 * n + 1)) = omega arith in rw e (reverse_at rest n)

opening_at : (edges : List Edge) (n : ℕ) (reverse : Bool) (by : DirEdge) → by.edge.0 ≡ n → by.reverse ≡ reverse →
    limit_in (opening_limits edges) by ≡ opening (values_along (edge_at edges n) reverse)
opening_at edges n false by edge side = let at : index_of by ≡ 2 * n = rw (edge, side) (omega arith) in rw at (forward_at edges n)
opening_at edges n true by edge side = let at : index_of by ≡ 2 * n + 1 = rw (edge, side) refl in rw at (reverse_at edges n)

-- the limit that a directed edge opens with
pub limit_in-opening_limits : (graph : Graph) (by : DirEdge) → limit_in (opening_limits graph.edges) by ≡ opening_of graph by
limit_in-opening_limits graph by = opening_at graph.edges by.edge.0 by.reverse by refl refl

-- before any entry the limits are those that edges open with
pub limits_before : (graph : Graph) → AreLimitsAfter graph [] (opening_limits graph.edges)
limits_before graph = record { long = length-opening_limits graph.edges; each = limit_in-opening_limits graph }

pub index_low : (by : DirEdge) → index_of by < 2 * by.edge.0 + 2
index_low by = elim by.reverse as (λ side. 2 * by.edge.0 + (if side then 1 else 0) < 2 * by.edge.0 + 2) [ true ↦ omega arith | false ↦ omega arith ]

-- a directed edge has its place in a list of limits
pub index_within : (limits : List ℕ) (graph : Graph) (by : DirEdge) → length limits ≡ 2 * length graph.edges → by.edge.0 < length graph.edges → index_of by < length limits
index_within limits graph by long there = let low = index_low by in omega arith

-- a directed edge's limit in two lists is that of its index
pub same_index : (limits snapshot : List ℕ) (by other : DirEdge) → index_of other ≡ index_of by → limit_in limits by ≤ limit_in snapshot by →
    limit_in limits other ≤ limit_in snapshot other
same_index limits snapshot by other same at = subst (λ (i : ℕ). get_or limits i 0 ≤ get_or snapshot i 0) (sym same) at
