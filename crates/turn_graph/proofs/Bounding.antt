-- A feasible potential of towers is feasible by states.
use Rattle.std.proofs.Common.{◌≡◌, ℕ, ◌==◌, not, Bool, Option, Some, map, filter, length, IsSome, Contains, sym, subst, ap, ◌∙◌, inl, inr, arith}
use Rattle.std.proofs.lemmas.Bool.{cases_Bool, eqb-true}
use Rattle.std.proofs.lemmas.List.Elements.{Contains-append_cases}
use Rattle.gh_base.specs.declared.edges.Hop.{Hop}
use Rattle.walk_rules.specs.Walks.{hops_from, cost}
use Rattle.walk_rules.specs.Potentials.{IsWithin, IsFeasible}
use Rattle.turn_graph.specs.declared.state.State.{State}
use Rattle.turn_graph.specs.declared.state.State.TheVariants.{Start, Passed, Target}
use Rattle.turn_graph.specs.Restrictions.{end_of}
use Rattle.turn_graph.specs.States.{number_of, onto_state, arrivals, Trip, is_last, hops_at, by_states, state_by, target_in, IsOver}
use Rattle.turn_graph.specs.Bounds.{bound_at, bound_by}
use Rattle.turn_graph.specs.Leading.{from_map, from_filter}
use Rattle.turn_graph.proofs.Numbers.{state_passed, state_target}

module _ (trip : Trip) (over : IsOver trip.graph trip.base) (inner : ℕ → Option ℕ) (feasible : IsFeasible trip.base inner trip.to) where
  abbrev edges : ℕ
  edges = length trip.graph.edges

  abbrev bound : ℕ → Option ℕ
  bound n = bound_by inner trip.graph trip.from n

  -- along a hop of the base, by states
  along_base : (tower : ℕ) (x hop : Hop) → Contains (hops_from trip.base tower) x → onto_state x ≡ hop → IsSome hop.weight → IsWithin (cost hop) (inner tower) (bound hop.to.0)
  along_base tower x hop c e s =
      let known = over.hops tower x c in
      let base : IsWithin (cost x) (inner tower) (inner x.to.0) = feasible.along tower x c (subst (λ (h : Hop). IsSome h.weight) (sym e) s) in
      let there : inner x.to.0 ≡ bound (number_of x.by) =
      ap inner known.ends ∙ ap (bound_at inner trip.graph trip.from) (sym (state_passed edges x.by known.is_edge)) in
      let here : IsWithin (cost x) (inner tower) (bound (number_of x.by)) = subst (λ (o : Option ℕ). IsWithin (cost x) (inner tower) o) there base in
      subst (λ (h : Hop). IsWithin (cost h) (inner tower) (bound h.to.0)) e here

  along_at : (state : State) (hop : Hop) → Contains (hops_at trip state) hop → IsSome hop.weight → IsWithin (cost hop) (bound_at inner trip.graph trip.from state) (bound hop.to.0)
  along_at Start hop c s =
      let x = from_map onto_state (hops_from trip.base trip.from) hop c in
      along_base trip.from x.0 hop x.1 x.2 s
  along_at Target hop c s = absurd (omega (arith, c.1))
  along_at (Passed by) hop c s =
      let p : Hop → Bool = λ hop. not (trip.is_banned by hop.by) in
      let next = hops_from trip.base (end_of trip.graph by) in
      elim (Contains-append_cases (map onto_state (filter p next)) (arrivals edges by (is_last trip (Passed by))) hop c) [
        | inl h ↦
            let x = from_map onto_state (filter p next) hop h in
            along_base (end_of trip.graph by) x.0 hop (from_filter p next x.0 x.1).0 x.2 s
        | inr h ↦ elim (cases_Bool (end_of trip.graph by == trip.to)) [
          | inl t ↦
              let here : inner (end_of trip.graph by) ≡ Some 0 = ap inner (eqb-true (end_of trip.graph by) trip.to t) ∙ feasible.at_target in
              λ y e. (0, here, omega arith)
          | inr f ↦ absurd (let none = rw f at h in omega (arith, none.1))
        ]
      ]

  pub feasible_by_states : IsFeasible (by_states trip) bound (target_in trip.graph)
  feasible_by_states = record {
    at_target = ap (bound_at inner trip.graph trip.from) (state_target edges);
    along = λ node hop c s. along_at (state_by edges node) hop c s;
  }
