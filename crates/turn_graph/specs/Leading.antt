-- Each hop by states leads to a state.
use Rattle.std.specs.Prelude.{◌≡◌, ℕ, zero, suc, ◌+◌, ◌*◌, ◌<◌, ◌⊎◌, Bool, true, false, not, List, [], ◌∷◌, map, filter, length, Contains, refl}
use Rattle.std.proofs.Common.{sym, ap, ◌∙◌, inl, inr, arith}
use Rattle.std.proofs.lemmas.Bool.{cases_Bool}
use Rattle.std.proofs.lemmas.List.Elements.{Contains-append_cases}
use Rattle.gh_base.specs.declared.edges.DirEdge.{DirEdge}
use Rattle.gh_base.specs.declared.edges.Hop.{Hop}
use Rattle.gh_base.specs.Networks.{Network, LeadsToNodes}
use Rattle.walk_rules.specs.Walks.{hops_from}
use Rattle.base_graph.specs.Graphs.{Graph}
use Rattle.turn_graph.specs.declared.state.State.{State}
use Rattle.turn_graph.specs.declared.state.State.TheVariants.{Start, Passed, Target}
use Rattle.turn_graph.specs.States.{number_of, onto_state, arrival, arrivals, Trip, tower_at, is_last, hops_at, state_by, by_states, IsOver}

pub first_or_later : {A : Type 0} (y : A) (xs : List A) (x : A) → Contains (y ∷ xs) x → (y ≡ x) ⊎ Contains xs x
first_or_later y xs x (zero, l, e) = inl e
first_or_later y xs x (suc k, l, e) = inr (k, omega arith, e)

-- an item of a list that was mapped comes from one
pub from_map : {A B : Type 0} (f : A → B) (xs : List A) (y : B) → Contains (map f xs) y → (x : A) × Contains xs x × (f x ≡ y)
from_map f [] y c = absurd (omega (arith, c.1))
from_map f (x ∷ xs) y c = elim (first_or_later (f x) (map f xs) y c) [
  | inl e ↦ (x, (0, omega arith, refl), e)
  | inr l ↦ let rest = from_map f xs y l in (rest.0, (suc rest.1.0, omega (arith, rest.1.1), rest.1.2), rest.2)
]

-- an item of a list that was filtered is in it and passes
pub from_filter : {A : Type 0} (p : A → Bool) (xs : List A) (x : A) → Contains (filter p xs) x → Contains xs x × (p x ≡ true)
from_filter p [] x c = absurd (omega (arith, c.1))
from_filter p (y ∷ xs) x c = elim (cases_Bool (p y)) [
  | inl t ↦ elim (first_or_later y (filter p xs) x (rw t at c)) [
    | inl e ↦ ((0, omega arith, e), sym (ap p e) ∙ t)
    | inr l ↦ let rest = from_filter p xs x l in ((suc rest.0.0, omega (arith, rest.0.1), rest.0.2), rest.1)
  ]
  | inr f ↦ let rest = from_filter p xs x (rw f at c) in ((suc rest.0.0, omega (arith, rest.0.1), rest.0.2), rest.1)
]

pub number_below : (edges : ℕ) (by : DirEdge) → by.edge.0 < edges → number_of by < 2 * edges
number_below edges by l = elim (cases_Bool by.reverse) [
  | inl t ↦ rw t (omega arith)
  | inr f ↦ rw f (omega arith)
]

to_of_state : (graph : Graph) (base : Network) (is : IsOver graph base) (node : ℕ) (hops : List Hop) (hop : Hop) → ((x : Hop) → Contains hops x → Contains (hops_from base node) x) → Contains (map onto_state hops) hop → hop.to.0 < 2 * length graph.edges + 2
to_of_state graph base is node hops hop within c =
    let from = from_map onto_state hops hop c in
    let e : number_of from.0.by ≡ hop.to.0 = ap (λ (h : Hop). h.to.0) from.2 in
    let l = number_below (length graph.edges) from.0.by (is.hops node from.0 (within from.0 from.1)).is_edge in
    omega arith

pub to_of_arrival : (edges : ℕ) (by : DirEdge) (b : Bool) (hop : Hop) → Contains (arrivals edges by b) hop → arrival edges by ≡ hop
to_of_arrival edges by false hop c = absurd (omega (arith, c.1))
to_of_arrival edges by true hop c = elim (first_or_later (arrival edges by) [] hop c) [
  | inl e ↦ e
  | inr none ↦ absurd (omega (arith, none.1))
]

leads_at : (trip : Trip) → IsOver trip.graph trip.base → (state : State) (hop : Hop) → Contains (hops_at trip state) hop → hop.to.0 < 2 * length trip.graph.edges + 2
leads_at trip is Start hop c = to_of_state trip.graph trip.base is trip.from (hops_from trip.base trip.from) hop (λ x h. h) c
leads_at trip is Target hop c = absurd (omega (arith, c.1))
leads_at trip is (Passed by) hop c =
    let p : Hop → Bool = λ hop. not (trip.is_banned by hop.by) in
    let all = hops_from trip.base (tower_at trip (Passed by)) in
    elim (Contains-append_cases (map onto_state (filter p all)) (arrivals (length trip.graph.edges) by (is_last trip (Passed by))) hop c) [
      | inl h ↦ to_of_state trip.graph trip.base is (tower_at trip (Passed by)) (filter p all) hop (λ x h. (from_filter p all x h).0) h
      | inr h ↦
          let e = to_of_arrival (length trip.graph.edges) by (is_last trip (Passed by)) hop h in
          let n : 2 * length trip.graph.edges + 1 ≡ hop.to.0 = ap (λ (h : Hop). h.to.0) e in
          omega arith
    ]

-- each hop leads to a state
pub states_lead : (trip : Trip) → IsOver trip.graph trip.base → LeadsToNodes (by_states trip)
states_lead trip is node hop c = leads_at trip is (state_by (length trip.graph.edges) node) hop c
