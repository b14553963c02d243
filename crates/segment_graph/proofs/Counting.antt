-- Round a tower stands each directed edge that starts there, once, and no other.
use Rattle.std.proofs.Common.{◌≡◌, ℕ, zero, suc, ◌+◌, ◌*◌, ◌/◌, ◌%◌, ◌<◌, ◌≤◌, Bool, true, false, cond, ◌&&◌, eqb, ltb, List, [], ◌∷◌, ◌++◌, length, inl, inr, refl, sym, ap, ◌∙◌, subst, arith, add-zero, Result, Ok, Err, OnOk, OnErr}
use Rattle.std.specs.Prelude.{All}
use Rattle.std.proofs.lemmas.Bool.{cases_eq, cases_lt, cases_order, eq-eqb, ne_eqb, lt-ltb, le-ltb}
use Rattle.std.proofs.lemmas.List.{length_push}
use Rattle.std.proofs.lemmas.List.Elements.{All-push, All-weaker}
use Rattle.std.proofs.lemmas.List.Sums.{sum_by-cons}
use Rattle.gh_base.specs.declared.edges.DirEdge.{DirEdge}
use Rattle.gh_base.specs.declared.map.Point.{Point}
use Rattle.gh_base.specs.Places.{IsOnEarth}
use Rattle.base_graph.specs.Graphs.{Edge, Graph, IsGraph, IsEdge, times, is_same, same_side, starts_at, edge_at, tail}
use Rattle.segment_graph.specs.Halves.{half, halves_below, tower_left, leaving, graph_of}
use Rattle.segment_graph.proofs.Listing.{length-numbered, get_or-numbered}

-- the number of a half-edge
abbrev number : ℕ → Bool → ℕ
number edge reverse = cond {A = ℕ} reverse (2 * edge + 1) (2 * edge)

of_edge : (edge : ℕ) (reverse : Bool) → number edge reverse / 2 ≡ edge
of_edge edge true = omega arith
of_edge edge false = omega arith

of_side : (edge : ℕ) (reverse : Bool) → eqb (number edge reverse % 2) 1 ≡ reverse
of_side edge true = eq-eqb ((2 * edge + 1) % 2) 1 (omega arith)
of_side edge false = ne_eqb (2 * edge % 2) 1 (λ e. absurd (omega arith))

below : (edge count : ℕ) (reverse : Bool) → ltb (number edge reverse) (2 * count) ≡ ltb edge count
below edge count true = elim (cases_lt edge count) [
  | inl l ↦ lt-ltb (2 * edge + 1) (2 * count) (omega arith) ∙ sym (lt-ltb edge count l)
  | inr l ↦ le-ltb (2 * edge + 1) (2 * count) (omega arith) ∙ sym (le-ltb edge count l)
]
below edge count false = elim (cases_lt edge count) [
  | inl l ↦ lt-ltb (2 * edge) (2 * count) (omega arith) ∙ sym (lt-ltb edge count l)
  | inr l ↦ le-ltb (2 * edge) (2 * count) (omega arith) ∙ sym (le-ltb edge count l)
]

-- a directed edge is the half-edge of its number
same_half : (edge h : ℕ) (reverse : Bool) → (eqb edge (h / 2) && same_side reverse (eqb (h % 2) 1)) ≡ eqb (number edge reverse) h
same_half edge h true = elim (cases_eq edge (h / 2)) [
  | inr e ↦
      let no : eqb edge (h / 2) ≡ false = ne_eqb edge (h / 2) e in
      rw no (sym (ne_eqb (2 * edge + 1) h (λ q. e (omega arith))))
  | inl e ↦
      let yes : eqb edge (h / 2) ≡ true = eq-eqb edge (h / 2) e in
      elim (cases_eq (h % 2) 1) [
        | inl o ↦ rw (yes, eq-eqb (h % 2) 1 o) (sym (eq-eqb (2 * edge + 1) h (omega arith)))
        | inr o ↦ rw (yes, ne_eqb (h % 2) 1 o) (sym (ne_eqb (2 * edge + 1) h (λ q. o (omega arith))))
      ]
]
same_half edge h false = elim (cases_eq edge (h / 2)) [
  | inr e ↦
      let no : eqb edge (h / 2) ≡ false = ne_eqb edge (h / 2) e in
      rw no (sym (ne_eqb (2 * edge) h (λ q. e (omega arith))))
  | inl e ↦
      let yes : eqb edge (h / 2) ≡ true = eq-eqb edge (h / 2) e in
      elim (cases_eq (h % 2) 1) [
        | inl o ↦ rw (yes, eq-eqb (h % 2) 1 o) (sym (ne_eqb (2 * edge) h (λ q. absurd (omega arith))))
        | inr o ↦ rw (yes, ne_eqb (h % 2) 1 o) (sym (eq-eqb (2 * edge) h (omega arith)))
      ]
]

nothing : (b : Bool) (n : ℕ) → cond {A = ℕ} b 0 0 + n ≡ n
nothing true n = omega arith
nothing false n = omega arith

-- one half-edge more
one_more : (leaves : ℕ → ℕ) (tower x h : ℕ)
    → cond {A = ℕ} (eqb (leaves h) tower) (cond (eqb x h) 1 0) 0 + cond {A = ℕ} (ltb x h && eqb (leaves x) tower) 1 0
    ≡ cond {A = ℕ} (ltb x (suc h) && eqb (leaves x) tower) 1 0
one_more leaves tower x h = elim (cases_order x h) [
  | inl e ↦
      let same : eqb x h ≡ true = eq-eqb x h e in
      let was : ltb x h ≡ false = le-ltb x h (omega arith) in
      let is : ltb x (suc h) ≡ true = lt-ltb x (suc h) (omega arith) in
      let there : eqb (leaves x) tower ≡ eqb (leaves h) tower = ap (λ (k : ℕ). eqb (leaves k) tower) e in
      rw (same, was, is, there) (add-zero (cond {A = ℕ} (eqb (leaves h) tower) 1 0))
  | inr q ↦ elim q [
    | inl e ↦
        let same : eqb x h ≡ false = ne_eqb x h (λ p. absurd (omega arith)) in
        let was : ltb x h ≡ true = lt-ltb x h e in
        let is : ltb x (suc h) ≡ true = lt-ltb x (suc h) (omega arith) in
        rw (same, was, is) (nothing (eqb (leaves h) tower) (cond {A = ℕ} (eqb (leaves x) tower) 1 0))
    | inr e ↦
        let same : eqb x h ≡ false = ne_eqb x h (λ p. absurd (omega arith)) in
        let was : ltb x h ≡ false = le-ltb x h (omega arith) in
        let is : ltb x (suc h) ≡ false = le-ltb x (suc h) (omega arith) in
        rw (same, was, is) (nothing (eqb (leaves h) tower) 0)
  ]
]

first_too : (by d : DirEdge) (list : List DirEdge) (there : Bool) → times by (cond there (d ∷ list) list) ≡ cond {A = ℕ} there (cond (is_same by d) 1 0) 0 + times by list
first_too by d list true = sum_by-cons (λ x. cond {A = ℕ} (is_same by x) 1 0) d list
first_too by d list false = omega arith

times-halves_below : (leaves : ℕ → ℕ) (tower x : ℕ) (by : DirEdge) (n : ℕ) → ((h : ℕ) → is_same by (half h) ≡ eqb x h)
    → times by (halves_below leaves tower n) ≡ cond {A = ℕ} (ltb x n && eqb (leaves x) tower) 1 0
times-halves_below leaves tower x by zero each =
    let none : ltb x 0 ≡ false = le-ltb x 0 (omega arith) in
    rw none refl
times-halves_below leaves tower x by (suc h) each =
    first_too by (half h) (halves_below leaves tower h) (eqb (leaves h) tower)
    ∙ (ap (λ (b : Bool). cond {A = ℕ} (eqb (leaves h) tower) (cond b 1 0) 0 + times by (halves_below leaves tower h)) (each h)
    ∙ (ap (λ (m : ℕ). cond {A = ℕ} (eqb (leaves h) tower) (cond (eqb x h) 1 0) 0 + m) (times-halves_below leaves tower x by h each)
    ∙ one_more leaves tower x h))

times-leaving : (edges : List Edge) (tower : ℕ) (by : DirEdge) → times by (leaving edges tower) ≡ cond {A = ℕ} (starts_at edges tower by) 1 0
times-leaving edges tower by =
    let e = by.edge.0 in
    let r = by.reverse in
    times-halves_below (tower_left edges) tower (number e r) by (2 * length edges) (λ h. same_half e h r)
    ∙ (ap (λ (b : Bool). cond {A = ℕ} (b && eqb (tower_left edges (number e r)) tower) 1 0) (below e (length edges) r)
    ∙ (ap (λ (k : ℕ). cond {A = ℕ} (ltb e (length edges) && eqb (tail (edge_at edges k) (eqb (number e r % 2) 1)) tower) 1 0) (of_edge e r)
    ∙ ap (λ (b : Bool). cond {A = ℕ} (ltb e (length edges) && eqb (tail (edge_at edges e) b) tower) 1 0) (of_side e r)))

-- a graph of places and edges has the facts of a base graph
pub are_facts : (places : List Point) (edges : List Edge) → length places ≤ 2000000 → length edges ≤ 4000000
    → All IsOnEarth places → All (IsEdge (length places)) edges → IsGraph (graph_of places edges)
are_facts places edges few_places few_edges there joined = record {
  few_places = few_places;
  few_edges = few_edges;
  places = there;
  edges = joined;
  lists = length-numbered (leaving edges) (length places);
  around = λ node by l. ap (times by) (get_or-numbered (leaving edges) (length places) node [] l) ∙ times-leaving edges node by;
}

-- and keeps them as it grows by a tower or an edge
pub place_kept : (graph new : Graph) (place : Point) → IsGraph graph → IsOnEarth place → length graph.places < 2000000
    → new ≡ graph_of (graph.places ++ place ∷ []) graph.edges → IsGraph new
place_kept graph new place facts there room is =
    let more = length_push graph.places place in
    let wider : (edge : Edge) → IsEdge (length graph.places) edge → IsEdge (length (graph.places ++ place ∷ [])) edge =
    λ edge e. let b = e.base in let a = e.adjacent in record { base = omega arith; adjacent = omega arith; mm = e.mm; between = e.between; values = e.values } in
    rw is (are_facts (graph.places ++ place ∷ []) graph.edges (omega arith) facts.few_edges
    (All-push IsOnEarth graph.places place facts.places there)
    (All-weaker (IsEdge (length graph.places)) (IsEdge (length (graph.places ++ place ∷ []))) wider graph.edges facts.edges))

pub edge_kept : (graph new : Graph) (edge : Edge) → IsGraph graph → IsEdge (length graph.places) edge → length graph.edges < 4000000
    → new ≡ graph_of graph.places (graph.edges ++ edge ∷ []) → IsGraph new
edge_kept graph new edge facts e room is =
    let more = length_push graph.edges edge in
    rw is (are_facts graph.places (graph.edges ++ edge ∷ []) facts.few_places (omega arith) facts.places
    (All-push (IsEdge (length graph.places)) graph.edges edge facts.edges e))

-- whatever came of adding
pub place_kept_by : {E : Type 0} (graph new : Graph) (place : Point) (result : Result Unit E)
    → IsGraph graph → IsOnEarth place → length graph.places < 2000000
    → OnOk result (new ≡ graph_of (graph.places ++ place ∷ []) graph.edges) → OnErr result (new ≡ graph) → IsGraph new
place_kept_by graph new place (Ok u) facts there room ok err = place_kept graph new place facts there room ok
place_kept_by graph new place (Err u) facts there room ok err = subst IsGraph (sym err) facts

pub edge_kept_by : {E : Type 0} (graph new : Graph) (edge : Edge) (result : Result Unit E)
    → IsGraph graph → IsEdge (length graph.places) edge → length graph.edges < 4000000
    → OnOk result (new ≡ graph_of graph.places (graph.edges ++ edge ∷ [])) → OnErr result (new ≡ graph) → IsGraph new
edge_kept_by graph new edge (Ok u) facts e room ok err = edge_kept graph new edge facts e room ok
edge_kept_by graph new edge (Err u) facts e room ok err = subst IsGraph (sym err) facts
