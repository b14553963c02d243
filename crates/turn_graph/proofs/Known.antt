-- What is known of the hops that are left, as they are given.
use Rattle.std.proofs.Common.{◌≡◌, ◌≢◌, ℕ, ◌<◌, ◌*◌, ◌/◌, ◌==◌, nat_lt, Bool, false, Option, Some, None, IfSome, IfNone, List, [], ◌∷◌, filter, length, All, Contains, refl, sym, ap, ◌∙◌, inl, inr, arith}
use Rattle.std.proofs.lemmas.Bool.{cases_Bool}
use Rattle.std.proofs.lemmas.Bool.Decides.{nat_tests}
use Rattle.std.proofs.lemmas.List.Elements.{All-nil, All-head, All-same, All-rest, All-weaker, All-contains_itself}
use Rattle.gh_base.specs.declared.edges.DirEdge.{DirEdge}
use Rattle.gh_base.specs.declared.edges.Hop.{Hop}
use Rattle.gh_base.specs.Networks.{Network}
use Rattle.walk_rules.specs.Walks.{hops_from}
use Rattle.base_graph.specs.Graphs.{Graph}
use Rattle.turn_graph.specs.declared.state.State.{State}
use Rattle.turn_graph.specs.declared.state.State.TheVariants.{Start, Passed, Target}
use Rattle.turn_graph.specs.States.{state_by, edge_by, IsOver, AreKnown}

pub first_known : {A : Type 0} (P : A → Type 0) (x : A) (xs ys : List A) → ys ≡ x ∷ xs → All P ys → P x
first_known P x xs ys e all = All-head P x xs (All-same P (x ∷ xs) ys (sym e) all)

-- one that doesn't pass a filter is left out
pub passed_over : {A : Type 0} (p : A → Bool) (x : A) (xs ys zs : List A) → ys ≡ x ∷ xs → p x ≡ false → filter p ys ≡ filter p zs → filter p xs ≡ filter p zs
passed_over p x xs ys zs e f same =
    let out : filter p (x ∷ xs) ≡ filter p xs = rw f refl in
    sym out ∙ sym (ap (λ l. filter p l) e) ∙ same

-- the rest of what is known is known
pub rest_known : {A : Type 0} (P : A → Type 0) (o : Option A) (old new : List A) → IfSome o (λ x. old ≡ x ∷ new) → IfNone o (new ≡ []) → All P old → All P new
rest_known P (Some x) old new e _ all = All-rest P x new old e all
rest_known P None old new _ e all = All-same P new [] e (All-nil P)

abbrev pub IsEdgeOf : Graph → Hop → Type 0
IsEdgeOf graph hop = hop.by.edge.0 < length graph.edges

pub hops_known : (graph : Graph) (base : Network) (node : ℕ) (left : List Hop) → IsOver graph base → left ≡ hops_from base node → All (IsEdgeOf graph) left
hops_known graph base node left over e =
    let all = hops_from base node in
    All-same (IsEdgeOf graph) left all e (All-weaker (Contains all) (IsEdgeOf graph) (λ hop c. (over.hops node hop c).is_edge) all (All-contains_itself all))

-- a state that stands for a directed edge stands for one of so many edges
pub passed_below : (edges n : ℕ) (state : State) (by : DirEdge) → state ≡ state_by edges n → state ≡ Passed by → by.edge.0 < edges
passed_below edges n state by is e = elim (cases_Bool (nat_lt n (2 * edges))) [
  | inl t ↦
      let p : Passed (edge_by n) ≡ Passed by = sym (is ∙ rw t refl) ∙ e in
      let same : edge_by n ≡ by = cc in
      let half : n / 2 ≡ by.edge.0 = ap (λ (d : DirEdge). d.edge.0) same in
      let l : n < 2 * edges = grind (arith, nat_tests) in
      omega arith
  | inr f ↦ elim (cases_Bool (n == 2 * edges)) [
    | inl s ↦ absurd (let p : state ≡ Start = is ∙ rw (f, s) refl in cc)
    | inr s ↦ absurd (let p : state ≡ Target = is ∙ rw (f, s) refl in cc)
  ]
]

-- once started at a number, or with a hop given
pub known_there : (graph : Graph) (base : Network) (n node : ℕ) (state : State) (left : List Hop) → IsOver graph base → state ≡ state_by (length graph.edges) n → left ≡ hops_from base node → AreKnown graph state left
known_there graph base n node state left over is e = record {
  passed = λ by s. passed_below (length graph.edges) n state by is s;
  next = λ _. hops_known graph base node left over e;
}

pub known_after : (graph : Graph) (state : State) (o : Option Hop) (old new : List Hop) → state ≢ Target → IfSome o (λ hop. old ≡ hop ∷ new) → IfNone o (new ≡ []) → AreKnown graph state old → AreKnown graph state new
known_after graph state o old new differ some none known = record {
  passed = known.passed;
  next = λ _. rest_known (IsEdgeOf graph) o old new some none (known.next differ);
}
