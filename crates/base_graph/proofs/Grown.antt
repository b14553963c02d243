-- A graph that grows by a tower or an edge keeps its facts.
use Rattle.std.proofs.Common.{◌≡◌, ℕ, ◌+◌, ◌<◌, Result, Ok, Err, OnOk, OnErr, Bool, true, false, cond, ◌&&◌, eqb, ltb, List, [], ◌∷◌, ◌++◌, length, get_or, inl, inr, refl, sym, ap, ◌∙◌, subst, arith, add-zero}
use Rattle.std.proofs.lemmas.Bool.{cases_eq, cases_lt, cases_order, eq-eqb, ne_eqb, lt-ltb, le-ltb}
use Rattle.std.proofs.lemmas.List.{get_or-set_same, get_or-set_other, get_or_append_left, get_or_push, length-set, length_push}
use Rattle.std.proofs.lemmas.List.Elements.{All-get_or, All-push, All-weaker}
use Rattle.std.proofs.lemmas.List.Sums.{sum_by_push}
use Rattle.gh_base.specs.declared.edges.DirEdge.{DirEdge}
use Rattle.gh_base.specs.declared.map.Point.{Point}
use Rattle.gh_base.specs.Places.{IsOnEarth}
use Rattle.base_graph.specs.Graphs.{Edge, Graph, IsGraph, IsEdge, put_at, directed, with_edge, with_place, times, is_same, same_side, tail, no_edge}

-- one more directed edge counts where it is the one that is counted
times_push : (by d : DirEdge) (list : List DirEdge) → times by (list ++ d ∷ []) ≡ times by list + cond (is_same by d) 1 0
times_push by d list = sum_by_push (λ x. cond (is_same by x) 1 0) list d

times_put : (lists : List (List DirEdge)) (m node : ℕ) (by d : DirEdge) → m < length lists
    → times by (get_or (put_at lists m d) node []) ≡ times by (get_or lists node []) + cond (eqb m node) (cond (is_same by d) 1 0) 0
times_put lists m node by d h =
    let row = get_or lists m [] ++ d ∷ [] in
    let n = times by (get_or lists node []) in
    let one : ℕ = cond (is_same by d) 1 0 in
    elim (cases_eq m node) [
      | inl e ↦
          let there : get_or (put_at lists m d) node [] ≡ get_or lists node [] ++ d ∷ [] =
          subst (λ (j : ℕ). get_or (put_at lists m d) j [] ≡ get_or lists j [] ++ d ∷ []) e (get_or-set_same lists m row [] h) in
          ap (times by) there ∙ times_push by d (get_or lists node []) ∙ ap (λ (b : Bool). n + cond b one 0) (sym (eq-eqb m node e))
      | inr e ↦
          ap (times by) (get_or-set_other lists m node row [] (λ q. e (sym q))) ∙ sym (add-zero n) ∙ ap (λ (b : Bool). n + cond b one 0) (sym (ne_eqb m node e))
    ]

nothing : (s a b : Bool) → cond {A = ℕ} s 1 0 ≡ cond {A = ℕ} s 1 0 + cond {A = ℕ} a 0 0 + cond {A = ℕ} b 0 0
nothing s true true = omega arith
nothing s true false = omega arith
nothing s false true = omega arith
nothing s false false = omega arith

-- the two directions of the new edge
new_one : (edge : Edge) (side : Bool) (node : ℕ)
    → cond {A = ℕ} (eqb (tail edge side) node) 1 0 ≡ 0 + cond {A = ℕ} (eqb edge.base.0 node) (cond (same_side side false) 1 0) 0 + cond {A = ℕ} (eqb edge.adjacent.0 node) (cond (same_side side true) 1 0) 0
new_one edge true node = elim (eqb edge.adjacent.0 node) as (λ v. cond {A = ℕ} v 1 0 ≡ 0 + cond {A = ℕ} (eqb edge.base.0 node) 0 0 + cond {A = ℕ} v 1 0) [
  | true ↦ elim (eqb edge.base.0 node) as (λ w. 1 ≡ 0 + cond {A = ℕ} w 0 0 + 1) [ true ↦ omega arith | false ↦ omega arith ]
  | false ↦ elim (eqb edge.base.0 node) as (λ w. 0 ≡ 0 + cond {A = ℕ} w 0 0 + 0) [ true ↦ omega arith | false ↦ omega arith ]
]
new_one edge false node = elim (eqb edge.base.0 node) as (λ v. cond {A = ℕ} v 1 0 ≡ 0 + cond {A = ℕ} v 1 0 + cond {A = ℕ} (eqb edge.adjacent.0 node) 0 0) [
  | true ↦ elim (eqb edge.adjacent.0 node) as (λ w. 1 ≡ 0 + 1 + cond {A = ℕ} w 0 0) [ true ↦ omega arith | false ↦ omega arith ]
  | false ↦ elim (eqb edge.adjacent.0 node) as (λ w. 0 ≡ 0 + 0 + cond {A = ℕ} w 0 0) [ true ↦ omega arith | false ↦ omega arith ]
]

starts_one_more : (edges : List Edge) (edge : Edge) (x node : ℕ) (side : Bool)
    → cond {A = ℕ} (ltb x (length (edges ++ edge ∷ [])) && eqb (tail (get_or (edges ++ edge ∷ []) x no_edge) side) node) 1 0
    ≡ cond {A = ℕ} (ltb x (length edges) && eqb (tail (get_or edges x no_edge) side) node) 1 0
    + cond {A = ℕ} (eqb edge.base.0 node) (cond (eqb x (length edges) && same_side side false) 1 0) 0
    + cond {A = ℕ} (eqb edge.adjacent.0 node) (cond (eqb x (length edges) && same_side side true) 1 0) 0
starts_one_more edges edge x node side =
    let l = length_push edges edge in
    elim (cases_order x (length edges)) [
      | inl e ↦
          let was : ltb x (length edges) ≡ false = le-ltb x (length edges) (omega arith) in
          let is : ltb x (length (edges ++ edge ∷ [])) ≡ true = lt-ltb x (length (edges ++ edge ∷ [])) (omega arith) in
          let same : eqb x (length edges) ≡ true = eq-eqb x (length edges) e in
          let got : get_or (edges ++ edge ∷ []) x no_edge ≡ edge = get_or_push edges edge no_edge x (sym e) in
          rw (was, is, same, got) (new_one edge side node)
      | inr q ↦ elim q [
        | inl e ↦
            let was : ltb x (length edges) ≡ true = lt-ltb x (length edges) e in
            let is : ltb x (length (edges ++ edge ∷ [])) ≡ true = lt-ltb x (length (edges ++ edge ∷ [])) (omega arith) in
            let same : eqb x (length edges) ≡ false = ne_eqb x (length edges) (λ p. absurd (omega arith)) in
            let got : get_or (edges ++ edge ∷ []) x no_edge ≡ get_or edges x no_edge = get_or_append_left edges (edge ∷ []) no_edge x e in
            rw (was, is, same, got) (nothing (eqb (tail (get_or edges x no_edge) side) node) (eqb edge.base.0 node) (eqb edge.adjacent.0 node))
        | inr e ↦
            let was : ltb x (length edges) ≡ false = le-ltb x (length edges) (omega arith) in
            let is : ltb x (length (edges ++ edge ∷ [])) ≡ false = le-ltb x (length (edges ++ edge ∷ [])) (omega arith) in
            let same : eqb x (length edges) ≡ false = ne_eqb x (length edges) (λ p. absurd (omega arith)) in
            rw (was, is, same) (nothing false (eqb edge.base.0 node) (eqb edge.adjacent.0 node))
      ]
    ]

pub edge_kept : (graph : Graph) (edge : Edge) → IsGraph graph → IsEdge (length graph.places) edge → length graph.edges < 4000000 → IsGraph (with_edge graph edge)
unfolding with_edge
edge_kept graph edge facts e room =
    let id = length graph.edges in
    let forward = directed id false in
    let backward = directed id true in
    let once = put_at graph.around edge.base.0 forward in
    let lists : length once ≡ length graph.places = length-set graph.around edge.base.0 _ ∙ facts.lists in
    let base = e.base in
    let adjacent = e.adjacent in
    let count = facts.lists in
    record {
      few_places = facts.few_places;
      few_edges = let l = length_push graph.edges edge in omega arith;
      places = facts.places;
      edges = All-push (IsEdge (length graph.places)) graph.edges edge facts.edges e;
      lists = length-set once edge.adjacent.0 _ ∙ lists;
      around = λ node by h.
          times_put once edge.adjacent.0 node by backward (omega arith)
          ∙ ap (λ (n : ℕ). n + cond (eqb edge.adjacent.0 node) (cond (is_same by backward) 1 0) 0)
          (times_put graph.around edge.base.0 node by forward (omega arith)
          ∙ ap (λ (n : ℕ). n + cond (eqb edge.base.0 node) (cond (is_same by forward) 1 0) 0) (facts.around node by h))
          ∙ sym (starts_one_more graph.edges edge by.edge.0 node by.reverse);
    }

tail_below : (edge : Edge) (n : ℕ) (side : Bool) → IsEdge n edge → tail edge side < n
tail_below edge n true e = e.adjacent
tail_below edge n false e = e.base

-- no edge starts where there was no tower
none_starts : (graph : Graph) (x : ℕ) (side : Bool) → IsGraph graph → ltb x (length graph.edges) && eqb (tail (get_or graph.edges x no_edge) side) (length graph.places) ≡ false
none_starts graph x side facts =
    elim (cases_lt x (length graph.edges)) [
      | inl h ↦
          let there : ltb x (length graph.edges) ≡ true = lt-ltb x (length graph.edges) h in
          let edge = get_or graph.edges x no_edge in
          let below : tail edge side < length graph.places = tail_below edge (length graph.places) side (All-get_or (IsEdge (length graph.places)) graph.edges x no_edge h facts.edges) in
          let other : eqb (tail edge side) (length graph.places) ≡ false = ne_eqb (tail edge side) (length graph.places) (λ p. absurd (omega arith)) in
          rw (there, other) refl
      | inr h ↦
          let past : ltb x (length graph.edges) ≡ false = le-ltb x (length graph.edges) h in
          rw past refl
    ]

pub place_kept : (graph : Graph) (place : Point) → IsGraph graph → IsOnEarth place → length graph.places < 2000000 → IsGraph (with_place graph place)
unfolding with_place
place_kept graph place facts there room =
    let l = length_push graph.places place in
    let lists = facts.lists in
    record {
      few_places = omega arith;
      few_edges = facts.few_edges;
      places = All-push IsOnEarth graph.places place facts.places there;
      edges = All-weaker (IsEdge (length graph.places)) (IsEdge (length (graph.places ++ place ∷ []))) (λ edge e. let b = e.base in let a = e.adjacent in record { base = omega arith; adjacent = omega arith; mm = e.mm; between = e.between; values = e.values }) graph.edges facts.edges;
      lists = length_push graph.around [] ∙ ap (λ (n : ℕ). n + 1) facts.lists ∙ sym l;
      around = λ node by h.
          elim (cases_lt node (length graph.places)) [
            | inl p ↦ ap (times by) (get_or_append_left graph.around ([] ∷ []) [] node (omega arith)) ∙ facts.around node by p
            | inr p ↦
                let at : node ≡ length graph.places = omega arith in
                let empty : get_or (graph.around ++ [] ∷ []) node [] ≡ [] = get_or_push graph.around [] [] node (omega arith) in
                let none : (ltb by.edge.0 (length graph.edges) && eqb (tail (get_or graph.edges by.edge.0 no_edge) by.reverse) node) ≡ false =
                ap (λ (n : ℕ). ltb by.edge.0 (length graph.edges) && eqb (tail (get_or graph.edges by.edge.0 no_edge) by.reverse) n) at ∙ none_starts graph by.edge.0 by.reverse facts in
                ap (times by) empty ∙ sym (ap (λ (b : Bool). cond {A = ℕ} b 1 0) none)
          ];
    }

-- whatever came of adding an edge
pub edge_kept_by : {E : Type 0} (graph new : Graph) (edge : Edge) (result : Result Unit E)
    → IsGraph graph → IsEdge (length graph.places) edge → length graph.edges < 4000000
    → OnOk result (new ≡ with_edge graph edge) → OnErr result (new ≡ graph) → IsGraph new
edge_kept_by graph new edge (Ok u) facts e room ok err = subst IsGraph (sym ok) (edge_kept graph edge facts e room)
edge_kept_by graph new edge (Err u) facts e room ok err = subst IsGraph (sym err) facts
