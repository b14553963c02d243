-- What starts at a tower: each directed edge in a tower's list is one of the graph's, and starts there.
use Rattle.std.specs.Prelude.{◌≡◌, ℕ, zero, suc, ◌<◌, ◌≤◌, Bool, true, false, cond, ◌&&◌, ◌==◌, nat_lt, List, [], ◌∷◌, length, Contains, slice_index_or, refl}
use Rattle.std.proofs.Common.{arith, get_or, inl, inr}
use Rattle.std.specs.List.{sum_by}
use Rattle.std.proofs.lemmas.Bool.{cases_Bool, eq-eqb}
use Rattle.std.proofs.lemmas.Bool.Decides.{nat_tests}
use Rattle.std.proofs.lemmas.List.Sums.{get_or-le-sum_by}
use Rattle.gh_base.specs.declared.edges.DirEdge.{DirEdge}
use Rattle.base_graph.specs.Graphs.{Graph, IsGraph, IsEdge, edge_at, head, tail, around_of, times, is_same, same_side, starts_at}
use Rattle.base_graph.specs.Facts.{edge_is}

same_side_self : (b : Bool) → same_side b b ≡ true
same_side_self true = refl
same_side_self false = refl

is_same_self : (by : DirEdge) → is_same by by ≡ true
is_same_self by = rw (eq-eqb by.edge.0 by.edge.0 refl) (same_side_self by.reverse)

times_some : (xs : List DirEdge) (by : DirEdge) → Contains xs by → 1 ≤ times by xs
times_some xs by c =
    let f : DirEdge → ℕ = λ x. cond {A = ℕ} (is_same by x) 1 0 in
    let le : f (get_or xs c.0 by) ≤ sum_by f xs = get_or-le-sum_by f xs c.0 by c.1 in
    rw (is_same_self by) at (rw c.2 at le)

-- past the last tower there is no list
past : {A : Type 0} (xs : List A) (k : ℕ) (d : A) → length xs ≤ k → slice_index_or xs k d ≡ d
past [] k d h = refl
past (x ∷ xs) zero d h = absurd (omega arith)
past (x ∷ xs) (suc k) d h = past xs k d (omega arith)

and_first : (a b : Bool) → (a && b) ≡ true → a ≡ true
and_first true b h = refl
and_first false b h = h

listed : (graph : Graph) (node : ℕ) (by : DirEdge) → IsGraph graph → Contains (around_of graph node) by → node < length graph.places
listed graph node by facts c = elim (cases_Bool (nat_lt node (length graph.places))) [
  | inl t ↦ grind (arith, nat_tests)
  | inr f ↦
      let late : length graph.around ≤ node = grind (arith, nat_tests, facts.lists) in
      let none : around_of graph node ≡ [] = past graph.around node [] late in
      absurd (let c' = rw none at c in omega (arith, c'.1))
]

pub around_starts : (graph : Graph) (node : ℕ) (by : DirEdge) → IsGraph graph → Contains (around_of graph node) by → starts_at graph.edges node by ≡ true
around_starts graph node by facts c = elim (cases_Bool (starts_at graph.edges node by)) [
  | inl t ↦ t
  | inr f ↦
      let some : 1 ≤ times by (around_of graph node) = times_some (around_of graph node) by c in
      let none = facts.around node by (listed graph node by facts c) in
      let zero_times : times by (around_of graph node) ≡ 0 = rw f at none in
      absurd (omega arith)
]

-- what starts at a tower is a directed edge of the graph
pub around_edge : (graph : Graph) (node : ℕ) (by : DirEdge) → IsGraph graph → Contains (around_of graph node) by → by.edge.0 < length graph.edges
around_edge graph node by facts c =
    let t = and_first (nat_lt by.edge.0 (length graph.edges)) (tail (edge_at graph.edges by.edge.0) by.reverse == node) (around_starts graph node by facts c) in
    grind (arith, nat_tests)

head_below : (towers : ℕ) (graph : Graph) (n : ℕ) (reverse : Bool) → IsEdge towers (edge_at graph.edges n) → head (edge_at graph.edges n) reverse < towers
head_below towers graph n true e = e.base
head_below towers graph n false e = e.adjacent

-- and leads to a tower
pub around_head : (graph : Graph) (node : ℕ) (by : DirEdge) → IsGraph graph → Contains (around_of graph node) by → head (edge_at graph.edges by.edge.0) by.reverse < length graph.places
around_head graph node by facts c = head_below (length graph.places) graph by.edge.0 by.reverse (edge_is graph by.edge.0 facts (around_edge graph node by facts c))
