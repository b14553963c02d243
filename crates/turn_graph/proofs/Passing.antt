-- The walks by states from the start to the target are the turn walks.
use Rattle.std.proofs.Common.{◌≡◌, ◌≢◌, ◌↔◌, ℕ, ℤ, suc, ◌+◌, ◌*◌, ◌<◌, ◌==◌, ◌⊎◌, not, Bool, true, false, List, [], ◌∷◌, map, filter, length, IsSome, All, Contains, refl, sym, subst, ap, ◌∙◌, inl, inr, arith}
use Rattle.std.proofs.lemmas.Bool.{cases_Bool, eqb-true, eq-eqb}
use Rattle.std.proofs.lemmas.List.Elements.{All-nil, All-cons, Contains-append_cases, Contains-append_left, Contains-append_right}
use Rattle.gh_base.specs.declared.edges.DirEdge.{DirEdge}
use Rattle.gh_base.specs.declared.edges.Hop.{Hop}
use Rattle.gh_base.specs.Networks.{Network}
use Rattle.base_graph.specs.Graphs.{Graph, IsGraph}
use Rattle.walk_rules.specs.Walks.{hops_from, IsWalk, weight_of}
use Rattle.turn_graph.specs.declared.turn.Turn.{Turn}
use Rattle.turn_graph.specs.declared.state.State.{State}
use Rattle.turn_graph.specs.declared.state.State.TheVariants.{Start, Passed, Target}
use Rattle.turn_graph.specs.Restrictions.{Streets, end_of, IsBanned}
use Rattle.turn_graph.specs.TurnWalks.{GoesOnFreely, IsTurnWalk}
use Rattle.turn_graph.specs.States.{number_of, onto_state, arrival, arrivals, Trip, is_last, hops_at, state_by, trip_by, by_states, start_in, target_in, IsOver, onward, walk_by_states, AreOfTurnWalk}
use Rattle.turn_graph.specs.Leading.{first_or_later, from_map, from_filter, number_below, to_of_arrival}
use Rattle.turn_graph.specs.Tables.{Table, streets_for, IsTableOf}
use Rattle.turn_graph.proofs.Around.{end_below}
use Rattle.turn_graph.proofs.Known.{passed_below}
use Rattle.turn_graph.proofs.Deciding.{not_true, true_not, banned_by, by_banned}
use Rattle.turn_graph.proofs.Kept.{into_filter}
use Rattle.turn_graph.proofs.Numbers.{state_passed, state_start, state_target}

into_map : {A B : Type 0} (f : A → B) (xs : List A) (x : A) → Contains xs x → Contains (map f xs) (f x)
into_map f [] x c = absurd (omega (arith, c.1))
into_map f (y ∷ xs) x c = elim (first_or_later y xs x c) [
  | inl e ↦ (0, omega arith, ap f e)
  | inr l ↦ let rest = into_map f xs x l in (suc rest.0, omega (arith, rest.1), rest.2)
]

-- a walk by states weighs what the walk does
onward_weight : (edges : ℕ) (hops : List Hop) (by : DirEdge) → weight_of (onward edges by hops) ≡ weight_of hops
onward_weight edges [] by = omega arith
onward_weight edges (hop ∷ hops) by = let rest = onward_weight edges hops hop.by in omega arith

pub same_weight : (edges : ℕ) (hops : List Hop) → weight_of (walk_by_states edges hops) ≡ weight_of hops
same_weight edges [] = refl
same_weight edges (hop ∷ hops) = let rest = onward_weight edges hops hop.by in omega arith

module _ (trip : Trip) (over : IsOver trip.graph trip.base) where
  abbrev edges : ℕ
  edges = length trip.graph.edges

  abbrev all : Network
  all = by_states trip

  abbrev goal : ℕ
  goal = 2 * length trip.graph.edges + 1

  abbrev is_free : DirEdge → Hop → Bool
  is_free by hop = not (trip.is_banned by hop.by)

  abbrev next : DirEdge → List Hop
  next by = hops_from trip.base (end_of trip.graph by)

  -- what leaves a state: a hop of the base to which the turn isn't banned, or the arrival at the last tower
  passed_hops : (by : DirEdge) (hop : Hop) → by.edge.0 < edges → Contains (hops_from all (number_of by)) hop →
      ((x : Hop) × Contains (next by) x × (trip.is_banned by x.by ≡ false) × (onto_state x ≡ hop)) ⊎ ((end_of trip.graph by ≡ trip.to) × (arrival edges by ≡ hop))
  passed_hops by hop l c =
      let here : Contains (hops_at trip (Passed by)) hop = subst (λ (s : State). Contains (hops_at trip s) hop) (state_passed edges by l) c in
      elim (Contains-append_cases (map onto_state (filter (is_free by) (next by))) (arrivals edges by (is_last trip (Passed by))) hop here) [
        | inl h ↦
            let x = from_map onto_state (filter (is_free by) (next by)) hop h in
            let y = from_filter (is_free by) (next by) x.0 x.1 in
            inl (x.0, y.0, not_true (trip.is_banned by x.0.by) y.1, x.2)
        | inr h ↦ elim (cases_Bool (end_of trip.graph by == trip.to)) [
          | inl t ↦ inr (eqb-true (end_of trip.graph by) trip.to t, to_of_arrival edges by (is_last trip (Passed by)) hop h)
          | inr f ↦ absurd (let none = rw f at h in omega (arith, none.1))
        ]
      ]

  free_hop : (by : DirEdge) (hop : Hop) → by.edge.0 < edges → Contains (next by) hop → trip.is_banned by hop.by ≡ false → Contains (hops_from all (number_of by)) (onto_state hop)
  free_hop by hop l c f =
      let one = into_map onto_state (filter (is_free by) (next by)) hop (into_filter (is_free by) (next by) hop c (true_not (trip.is_banned by hop.by) f)) in
      let here : Contains (hops_at trip (Passed by)) (onto_state hop) =
      Contains-append_left (map onto_state (filter (is_free by) (next by))) (arrivals edges by (is_last trip (Passed by))) (onto_state hop) one in
      subst (λ (s : State). Contains (hops_at trip s) (onto_state hop)) (sym (state_passed edges by l)) here

  last_hop : (by : DirEdge) → by.edge.0 < edges → end_of trip.graph by ≡ trip.to → Contains (hops_from all (number_of by)) (arrival edges by)
  last_hop by l e =
      let t : (end_of trip.graph by == trip.to) ≡ true = eq-eqb (end_of trip.graph by) trip.to e in
      let one : Contains (arrivals edges by true) (arrival edges by) = (0, omega arith, refl) in
      let here : Contains (hops_at trip (Passed by)) (arrival edges by) =
      Contains-append_right (map onto_state (filter (is_free by) (next by))) (arrivals edges by (is_last trip (Passed by))) (arrival edges by)
      (subst (λ (b : Bool). Contains (arrivals edges by b) (arrival edges by)) (sym t) one) in
      subst (λ (s : State). Contains (hops_at trip s) (arrival edges by)) (sym (state_passed edges by l)) here

  start_hops : (hop : Hop) → Contains (hops_from all (2 * edges)) hop → (x : Hop) × Contains (hops_from trip.base trip.from) x × (onto_state x ≡ hop)
  start_hops hop c = from_map onto_state (hops_from trip.base trip.from) hop (subst (λ (s : State). Contains (hops_at trip s) hop) (state_start edges) c)

  start_hop : (hop : Hop) → Contains (hops_from trip.base trip.from) hop → Contains (hops_from all (2 * edges)) (onto_state hop)
  start_hop hop c = subst (λ (s : State). Contains (hops_at trip s) (onto_state hop)) (sym (state_start edges)) (into_map onto_state (hops_from trip.base trip.from) hop c)

  -- nothing leaves the target
  stuck : (hops : List Hop) (b : ℕ) → IsWalk all goal hops b → (hops ≡ []) × (goal ≡ b)
  stuck [] b w = (refl, w)
  stuck (hop ∷ hops) b w = absurd (
      let none : Contains (hops_at trip Target) hop = subst (λ (s : State). Contains (hops_at trip s) hop) (state_target edges) w.0 in omega (arith, none.1))

  module _ (streets : Streets) (turns : List Turn) (same : streets.graph ≡ trip.graph)
      (banned : (a b : DirEdge) → a.edge.0 < edges → trip.is_banned a b ≡ true → IsBanned streets turns a b)
      (bans : (a b : DirEdge) → a.edge.0 < edges → IsBanned streets turns a b → trip.is_banned a b ≡ true) where
    is_not : (a b : DirEdge) → a.edge.0 < edges → trip.is_banned a b ≡ false → IsBanned streets turns a b → ⊥
    is_not a b l f h = let t = bans a b l h in cc

    not_is : (a b : DirEdge) → a.edge.0 < edges → (IsBanned streets turns a b → ⊥) → trip.is_banned a b ≡ false
    not_is a b l n = elim (cases_Bool (trip.is_banned a b)) [
      | inl t ↦ absurd (n (banned a b l t))
      | inr f ↦ f
    ]

    -- behind a directed edge, both ways
    walk_from : (hops : List Hop) (by : DirEdge) → by.edge.0 < edges → IsWalk all (number_of by) hops goal →
        (walk : List Hop) × IsWalk trip.base (end_of trip.graph by) walk trip.to × GoesOnFreely streets turns by walk × (hops ≡ onward edges by walk)
    walk_from [] by l w = absurd (let n = number_below edges by l in omega arith)
    walk_from (hop ∷ hops) by l w = elim (passed_hops by hop l w.0) [
      | inl (x, c, f, e) ↦
          let known = over.hops (end_of trip.graph by) x c in
          let to : hop.to.0 ≡ number_of x.by = ap (λ (h : Hop). h.to.0) (sym e) in
          let rest = walk_from hops x.by known.is_edge (subst (λ (n : ℕ). IsWalk all n hops goal) to w.2) in (
            x ∷ rest.0,
            (c, subst (λ (h : Hop). IsSome h.weight) (sym e) w.1, subst (λ (n : ℕ). IsWalk trip.base n rest.0 trip.to) (sym known.ends) rest.1),
            (is_not by x.by l f, rest.2),
            ap (λ (xs : List Hop). hop ∷ xs) rest.3 ∙ ap (λ (h : Hop). h ∷ onward edges x.by rest.0) (sym e),
          )
      | inr (there, e) ↦
          let to : hop.to.0 ≡ goal = ap (λ (h : Hop). h.to.0) (sym e) in
          let end = stuck hops goal (subst (λ (n : ℕ). IsWalk all n hops goal) to w.2) in
          ([], there, tt, ap (λ (xs : List Hop). hop ∷ xs) end.0 ∙ ap (λ (h : Hop). h ∷ []) (sym e))
    ]

    walk_on : (walk : List Hop) (by : DirEdge) → by.edge.0 < edges → IsWalk trip.base (end_of trip.graph by) walk trip.to → GoesOnFreely streets turns by walk → IsWalk all (number_of by) (onward edges by walk) goal
    walk_on [] by l w free = (last_hop by l w, refl, refl)
    walk_on (hop ∷ walk) by l w free =
        let known = over.hops (end_of trip.graph by) hop w.0 in (
          free_hop by hop l w.0 (not_is by hop.by l free.0),
          w.1,
          walk_on walk hop.by known.is_edge (subst (λ (n : ℕ). IsWalk trip.base n walk trip.to) known.ends w.2) free.1,
        )

    pub are_of_turn_walk : (hops : List Hop) → IsWalk all (2 * edges) hops goal → AreOfTurnWalk trip.base streets turns trip.from trip.to hops
    are_of_turn_walk [] w = absurd (omega arith)
    are_of_turn_walk (hop ∷ hops) w =
        let x = start_hops hop w.0 in
        let known = over.hops trip.from x.0 x.1 in
        let to : hop.to.0 ≡ number_of x.0.by = ap (λ (h : Hop). h.to.0) (sym x.2) in
        let rest = walk_from hops x.0.by known.is_edge (subst (λ (n : ℕ). IsWalk all n hops goal) to w.2) in
        record {
          walk = x.0 ∷ rest.0;
          is_turn_walk = record {
            walk = (x.1, subst (λ (h : Hop). IsSome h.weight) (sym x.2) w.1, subst (λ (n : ℕ). IsWalk trip.base n rest.0 trip.to) (sym known.ends) rest.1);
            free = rest.2;
          };
          hops_are = ap (λ (xs : List Hop). hop ∷ xs) rest.3 ∙ ap (λ (h : Hop). h ∷ onward edges x.0.by rest.0) (sym x.2)
              ∙ ap (λ (n : ℕ). onto_state x.0 ∷ onward n x.0.by rest.0) (sym (ap (λ g. length g.edges) same));
        }

    turn_walk_on : (walk : List Hop) → trip.from ≢ trip.to → IsTurnWalk trip.base streets turns trip.from walk trip.to → IsWalk all (2 * edges) (walk_by_states edges walk) goal
    turn_walk_on [] differ w = absurd (differ w.walk)
    turn_walk_on (hop ∷ walk) differ w =
        let known = over.hops trip.from hop w.walk.0 in (
          start_hop hop w.walk.0,
          w.walk.1,
          walk_on walk hop.by known.is_edge (subst (λ (n : ℕ). IsWalk trip.base n walk trip.to) known.ends w.walk.2) w.free,
        )

    pub is_walk_by_states : (hops : List Hop) → trip.from ≢ trip.to → AreOfTurnWalk trip.base streets turns trip.from trip.to hops → IsWalk all (2 * edges) hops goal
    is_walk_by_states hops differ w =
        subst (λ (xs : List Hop). IsWalk all (2 * edges) xs goal) (sym (w.hops_are ∙ ap (λ (n : ℕ). walk_by_states n w.walk) (ap (λ g. length g.edges) same)))
        (turn_walk_on w.walk differ w.is_turn_walk)

-- what leaves a state is over an edge of the graph
module _ (trip : Trip) (over : IsOver trip.graph trip.base) where
  abbrev count : ℕ
  count = length trip.graph.edges

  hop_over : (state : State) (n : ℕ) (hop : Hop) → state ≡ state_by count n → Contains (hops_at trip state) hop → hop.by.edge.0 < count
  hop_over Start n hop is c =
      let x = from_map onto_state (hops_from trip.base trip.from) hop c in
      subst (λ (h : Hop). h.by.edge.0 < count) x.2 (over.hops trip.from x.0 x.1).is_edge
  hop_over Target n hop is c = absurd (omega (arith, c.1))
  hop_over (Passed by) n hop is c =
      let p : Hop → Bool = λ hop. not (trip.is_banned by hop.by) in
      let all = hops_from trip.base (end_of trip.graph by) in
      elim (Contains-append_cases (map onto_state (filter p all)) (arrivals count by (is_last trip (Passed by))) hop c) [
        | inl h ↦
            let x = from_map onto_state (filter p all) hop h in
            subst (λ (h : Hop). h.by.edge.0 < count) x.2 (over.hops (end_of trip.graph by) x.0 (from_filter p all x.0 x.1).0).is_edge
        | inr h ↦ subst (λ (h : Hop). h.by.edge.0 < count) (to_of_arrival count by (is_last trip (Passed by)) hop h) (passed_below count n (Passed by) by is refl)
      ]

  pub hops_over : (hops : List Hop) (n k : ℕ) → IsWalk (by_states trip) n hops k → All (λ hop. hop.by.edge.0 < count) hops
  hops_over [] n k w = All-nil (λ (hop : Hop). hop.by.edge.0 < count)
  hops_over (hop ∷ hops) n k w = All-cons (λ (hop : Hop). hop.by.edge.0 < count) hop hops (hop_over (state_by count n) n hop refl w.0) (hops_over hops hop.to.0 k w.2)

-- by a table, the walks by states between two towers are the turn walks
pub walks_are : (base : Network) (graph : Graph) (table : Table) (from to : ℕ) (ids : List ℤ) (all : List Turn) → IsGraph graph → IsOver graph base → from ≢ to →
    IsTableOf (streets_for graph ids table) all table → (hops : List Hop) →
    IsWalk (by_states (trip_by base graph table from to)) (start_in graph) hops (target_in graph) ↔ AreOfTurnWalk base (streets_for graph ids table) all from to hops
walks_are base graph table from to ids all facts over differ is hops =
    let streets = streets_for graph ids table in
    let trip = trip_by base graph table from to in
    let banned = λ (a : DirEdge) (b : DirEdge) (l : a.edge.0 < length graph.edges). banned_by streets all table is a b (end_below graph a facts l) in
    let bans = λ (a : DirEdge) (b : DirEdge) (l : a.edge.0 < length graph.edges). by_banned streets all table is a b (end_below graph a facts l) in (
      are_of_turn_walk trip over streets all refl banned bans hops,
      is_walk_by_states trip over streets all refl banned bans hops differ,
    )
