-- What starts at a tower: directed edges of the graph, and a way that has one there both starts and ends there.
use Rattle.std.specs.List.{list_any}
use Rattle.std.specs.Ordering.{int_eq}
use Rattle.std.proofs.Common.{◌≡◌, ℕ, ℤ, suc, ◌<◌, ◌≤◌, ◌==◌, nat_lt, not, count_by, Bool, true, List, [], ◌∷◌, length, All, Contains, refl, ap, ◌∙◌, inl, inr, arith}
use Rattle.std.proofs.lemmas.Bool.{cases_Bool, and_parts, and_from, eq-eqb, eqb-true, lt-ltb}
use Rattle.std.proofs.lemmas.Bool.Decides.{Decides-int_eq}
use Rattle.std.proofs.lemmas.List.Elements.{All-weaker, All-contains_itself}
use Rattle.gh_base.specs.declared.edges.DirEdge.{DirEdge}
use Rattle.base_graph.specs.Graphs.{Graph, IsGraph, around_of, times, is_same, starts_at}
use Rattle.base_graph.specs.Facts.{edge_is}
use Rattle.base_graph.specs.Starting.{around_edge, around_starts}
use Rattle.turn_graph.specs.Restrictions.{Streets, EndsAt, StartsAt, end_of, start_of, way_of}
use Rattle.turn_graph.specs.Counting.{has_way}
use Rattle.turn_graph.specs.Leading.{first_or_later}

pub around_known : (graph : Graph) (node : ℕ) → IsGraph graph → All (λ by. by.edge.0 < length graph.edges) (around_of graph node)
around_known graph node facts =
    let all = around_of graph node in
    All-weaker (Contains all) (λ by. by.edge.0 < length graph.edges) (λ by c. around_edge graph node by facts c) all (All-contains_itself all)

-- a directed edge ends at a tower
pub end_below : (graph : Graph) (by : DirEdge) → IsGraph graph → by.edge.0 < length graph.edges → end_of graph by < length graph.places
end_below graph by facts l =
    let e = edge_is graph by.edge.0 facts l in
    elim (cases_Bool by.reverse) [
      | inl t ↦ rw t e.base
      | inr f ↦ rw f e.adjacent
    ]

-- a test that some item passes
pub some_passes : {A : Type 0} (p : A → Bool) (xs : List A) → list_any p xs ≡ true → (x : A) × Contains xs x × (p x ≡ true)
some_passes p [] t = absurd (cc)
some_passes p (x ∷ xs) t = elim (cases_Bool (p x)) [
  | inl y ↦ (x, (0, omega arith, refl), y)
  | inr n ↦ let rest = some_passes p xs (rw n at t) in (rest.0, (suc rest.1.0, omega (arith, rest.1.1), rest.1.2), rest.2)
]

pub passes_some : {A : Type 0} (p : A → Bool) (xs : List A) (x : A) → Contains xs x → p x ≡ true → list_any p xs ≡ true
passes_some p [] x c t = absurd (omega (arith, c.1))
passes_some p (y ∷ xs) x c t = elim (cases_Bool (p y)) [
  | inl h ↦ rw h refl
  | inr n ↦ rw n (elim (first_or_later y xs x c) [
    | inl e ↦ absurd (let s : p y ≡ true = ap p e ∙ t in cc)
    | inr l ↦ passes_some p xs x l t
  ])
]

-- what is counted is there
counted_some : {A : Type 0} (p : A → Bool) (xs : List A) → 1 ≤ count_by p xs → (x : A) × Contains xs x × (p x ≡ true)
counted_some p [] l = absurd (omega arith)
counted_some p (x ∷ xs) l = elim (cases_Bool (p x)) [
  | inl y ↦ (x, (0, omega arith, refl), y)
  | inr n ↦
      let more : 1 ≤ count_by p xs = grind (arith, n) in
      let rest = counted_some p xs more in (rest.0, (suc rest.1.0, omega (arith, rest.1.1), rest.1.2), rest.2)
]

opposite : DirEdge → DirEdge
opposite by = record { edge = by.edge; reverse = not by.reverse }

ends_opposite : (graph : Graph) (by : DirEdge) → end_of graph (opposite by) ≡ start_of graph by
unfolding opposite
ends_opposite graph by = elim (cases_Bool by.reverse) [
  | inl t ↦ rw t refl
  | inr f ↦ rw f refl
]

starts_opposite : (graph : Graph) (by : DirEdge) → start_of graph (opposite by) ≡ end_of graph by
unfolding opposite
starts_opposite graph by = elim (cases_Bool by.reverse) [
  | inl t ↦ rw t refl
  | inr f ↦ rw f refl
]

module _ (streets : Streets) (facts : IsGraph streets.graph) (way : ℤ) (tower : ℕ) where
  abbrev graph : Graph
  graph = streets.graph

  -- a way that has a directed edge in a tower's list starts there
  pub starts_by : has_way streets.ways way (around_of graph tower) ≡ true → StartsAt streets way tower
  starts_by t =
      let some = some_passes (λ by. int_eq (way_of streets.ways by) way) (around_of graph tower) t in
      let parts = and_parts (nat_lt some.0.edge.0 (length graph.edges)) (start_of graph some.0 == tower) (around_starts graph tower some.0 facts some.1) in
      record {
        by = some.0;
        is_edge = around_edge graph tower some.0 facts some.1;
        starts = eqb-true (start_of graph some.0) tower parts.1;
        of_way = (Decides-int_eq (way_of streets.ways some.0) way).0 some.2;
      }

  -- and by its other direction it ends there
  pub ends_by : has_way streets.ways way (around_of graph tower) ≡ true → EndsAt streets way tower
  unfolding opposite
  ends_by t =
      let s = starts_by t in
      record {
        by = opposite s.by;
        is_edge = s.is_edge;
        ends = ends_opposite graph s.by ∙ s.starts;
        of_way = s.of_way;
      }

  -- and the other way round
  pub has_by_start : tower < length graph.places → StartsAt streets way tower → has_way streets.ways way (around_of graph tower) ≡ true
  has_by_start l s =
      let here : starts_at graph.edges tower s.by ≡ true =
      and_from (nat_lt s.by.edge.0 (length graph.edges)) (start_of graph s.by == tower) (lt-ltb s.by.edge.0 (length graph.edges) s.is_edge) (eq-eqb (start_of graph s.by) tower s.starts) in
      let one : times s.by (around_of graph tower) ≡ 1 = rw here at (facts.around tower s.by l) in
      let some = counted_some (is_same s.by) (around_of graph tower) (omega arith) in
      let same : s.by.edge.0 ≡ some.0.edge.0 = eqb-true s.by.edge.0 some.0.edge.0 (and_parts (s.by.edge.0 == some.0.edge.0) _ some.2).0 in
      let of_way : way_of streets.ways some.0 ≡ way = rw (← same) s.of_way in
      passes_some (λ by. int_eq (way_of streets.ways by) way) (around_of graph tower) some.0 some.1 ((Decides-int_eq (way_of streets.ways some.0) way).1 of_way)

  pub has_by_end : tower < length graph.places → EndsAt streets way tower → has_way streets.ways way (around_of graph tower) ≡ true
  unfolding opposite
  has_by_end l e = has_by_start l (record {
    by = opposite e.by;
    is_edge = e.is_edge;
    starts = starts_opposite graph e.by ∙ e.ends;
    of_way = e.of_way;
  })
