-- The pieces of edges: they join towers of the graph, and are over its edges.
use Rattle.std.specs.Prelude.{◌==◌, nat_le, nat_lt}
use Rattle.std.proofs.Common.{◌≡◌, ℕ, ◌+◌, ◌-◌, ◌<◌, Bool, true, false, Option, Some, None, List, [], ◌∷◌, map, length, All, Contains, refl, ap, ◌∙◌, subst, inl, inr, arith}
use Rattle.std.proofs.lemmas.Bool.{cases_Bool}
use Rattle.std.proofs.lemmas.List.Elements.{All-contains, All-cons, All-nil, All-head, All-tail, All-map, All-weaker, All-contains_itself, Contains-append_cases}
use Rattle.gh_base.specs.declared.edges.EdgeId.{EdgeId}
use Rattle.gh_base.specs.declared.edges.DirEdge.{DirEdge}
use Rattle.gh_base.specs.declared.edges.Hop.{Hop}
use Rattle.gh_base.specs.declared.edges.Arrival.{Arrival}
use Rattle.gh_base.specs.Networks.{Network}
use Rattle.base_graph.specs.Graphs.{Graph, IsGraph, IsEdge, edge_at, head, tail, around_of}
use Rattle.base_graph.specs.Facts.{edge_is}
use Rattle.base_graph.specs.Starting.{around_edge}
use Rattle.walk_rules.specs.Walks.{IsWalk}
use Rattle.query_graph.specs.declared.ends.Leave.{Leave}
use Rattle.query_graph.specs.declared.ends.Reach.{Reach}
use Rattle.query_graph.specs.Ends.{given, ways_out, ways_in, LeavesIn, ReachesIn, AreDirect, hop_of}
use Rattle.query_graph.specs.Joined.{hops_into, first_or_later}
use Rattle.weighting.specs.Rules.{Rule}
use Rattle.weighting.specs.Roads.{network_by, hop_out, AreOver}
use Rattle.traffic_core.specs.declared.spot.Spot.{Spot}
use Rattle.traffic_core.specs.declared.spot.Spot.TheVariants.{Tower, Inside}
use Rattle.traffic_core.specs.Spots.{IsOn}
use Rattle.traffic_core.specs.Trips.{Trip, way_out, way_in, leave_from, reach_to, straight, straight_hop, direct_between, trip_by, trip_network, trip_start, trip_target, start_for, target_for}

head_in : (graph : Graph) (edge : ℕ) (reverse : Bool) → IsEdge (length graph.places) (edge_at graph.edges edge) → head (edge_at graph.edges edge) reverse < length graph.places
head_in graph edge true e = e.base
head_in graph edge false e = e.adjacent

tail_in : (graph : Graph) (edge : ℕ) (reverse : Bool) → IsEdge (length graph.places) (edge_at graph.edges edge) → tail (edge_at graph.edges edge) reverse < length graph.places
tail_in graph edge true e = e.adjacent
tail_in graph edge false e = e.base

pair : {A : Type 0} (P : A → Type 0) (x y : A) → P x → P y → All P (x ∷ y ∷ [])
pair P x y p q = All-cons P x (y ∷ []) p (All-cons P y [] q (All-nil P))

module _ (rule : Rule) (limits : DirEdge → ℕ) (graph : Graph) (facts : IsGraph graph) where
  pub leaves_in : (spot : Spot) → IsOn graph spot → LeavesIn (length graph.places) (leave_from rule limits graph spot)
  leaves_in (Tower node) on = on
  leaves_in (Inside id mm) on =
      let e = edge_is graph id.0 facts on.0 in
      pair (λ (hop : Hop). hop.to.0 < length graph.places) (way_out rule limits graph id mm false) (way_out rule limits graph id mm true) (head_in graph id.0 false e) (head_in graph id.0 true e)

  pub reaches_in : (spot : Spot) → IsOn graph spot → ReachesIn (length graph.places) (reach_to rule limits graph spot)
  reaches_in (Tower node) on = on
  reaches_in (Inside id mm) on =
      let e = edge_is graph id.0 facts on.0 in
      pair (λ (arrival : Arrival). arrival.at.0 < length graph.places) (way_in rule limits graph id mm false) (way_in rule limits graph id mm true) (tail_in graph id.0 false e) (tail_in graph id.0 true e)

-- of two that may be there, one
one_of : (P : Hop → Type 0) (a b : Option Hop) → ((hop : Hop) → a ≡ Some hop → P hop) → ((hop : Hop) → b ≡ Some hop → P hop) → (hop : Hop) → Contains (given (a ∷ b ∷ [])) hop → P hop
one_of P None None p q hop c = absurd (omega (arith, c.1))
one_of P None (Some y) p q hop c = elim (first_or_later y [] hop c) [ inl e ↦ subst P e (q y refl) | inr none ↦ absurd (omega (arith, none.1)) ]
one_of P (Some x) None p q hop c = elim (first_or_later x [] hop c) [ inl e ↦ subst P e (p x refl) | inr none ↦ absurd (omega (arith, none.1)) ]
one_of P (Some x) (Some y) p q hop c = elim (first_or_later x (y ∷ []) hop c) [
  | inl e ↦ subst P e (p x refl)
  | inr later ↦ elim (first_or_later y [] hop later) [ inl e ↦ subst P e (q y refl) | inr none ↦ absurd (omega (arith, none.1)) ]
]

-- so is a way into the target, if each arrival is
into_so : (target node : ℕ) (P : Hop → Type 0) (arrivals : List Arrival) → All (λ (arrival : Arrival). P (hop_of target arrival)) arrivals → (hop : Hop) → Contains (hops_into target node arrivals) hop → P hop
into_so target node P [] all hop c = absurd (omega (arith, c.1))
into_so target node P (arrival ∷ arrivals) all hop c =
    let later = All-tail (λ (a : Arrival). P (hop_of target a)) arrival arrivals all in
    elim (cases_Bool (arrival.at.0 == node)) [
      | inl t ↦ elim (first_or_later (hop_of target arrival) (hops_into target node arrivals) hop (rw t at c)) [
        | inl e ↦ subst P e (All-head (λ (a : Arrival). P (hop_of target a)) arrival arrivals all)
        | inr l ↦ into_so target node P arrivals later hop l
      ]
      | inr f ↦ into_so target node P arrivals later hop (rw f at c)
    ]

module _ (rule : Rule) (limits : DirEdge → ℕ) (graph : Graph) where
  straight_so : (P : Hop → Type 0) (id : EdgeId) (reverse : Bool) (near far : ℕ) → P (straight_hop rule limits graph id reverse (far - near)) → (hop : Hop) → straight rule limits graph id reverse near far ≡ Some hop → P hop
  straight_so P id reverse near far p hop e = elim (cases_Bool (nat_le near far)) [
    | inl t ↦
        let s : Some (straight_hop rule limits graph id reverse (far - near)) ≡ Some hop = rw t at e in
        let same : straight_hop rule limits graph id reverse (far - near) ≡ hop = cc in
        subst P same p
    | inr f ↦ absurd (let s : None ≡ Some hop = rw f at e in cc)
  ]

  -- so is each direct piece, if both of its edge are
  direct_so : (P : Hop → Type 0) (e : EdgeId) (x : ℕ) (f : EdgeId) (y : ℕ) → ((reverse : Bool) (mm : ℕ) → P (straight_hop rule limits graph e reverse mm)) → (hop : Hop) → Contains (given (direct_between rule limits graph (Inside e x) (Inside f y))) hop → P hop
  direct_so P e x f y p hop c = elim (cases_Bool (e.0 == f.0)) [
    | inl t ↦
        let c' : Contains (given (straight rule limits graph e false x y ∷ straight rule limits graph e true y x ∷ [])) hop = rw t at c in
        one_of P (straight rule limits graph e false x y) (straight rule limits graph e true y x) (straight_so P e false x y (p false (y - x))) (straight_so P e true y x (p true (x - y))) hop c'
    | inr g ↦ absurd (let c' : Contains (given {A = Hop} (None ∷ None ∷ [])) hop = rw g at c in omega (arith, c'.1))
  ]

  -- a direct piece leads to the target, and is there only where both spots lie inside edges
  pub directs_lead : (from to : Spot) → AreDirect (length graph.places) (leave_from rule limits graph from) (reach_to rule limits graph to) (direct_between rule limits graph from to)
  directs_lead (Tower node) to hop c = absurd (omega (arith, c.1))
  directs_lead (Inside e x) (Tower node) hop c = absurd (omega (arith, c.1))
  directs_lead (Inside e x) (Inside f y) hop c = (direct_so (λ (h : Hop). h.to.0 ≡ length graph.places + 1) e x f y (λ reverse mm. refl) hop c, refl)

  -- the same said of pieces that are those
  pub directs_in : (from to : Spot) (nodes : ℕ) (leave : Leave) (reach : Reach) (direct : List (Option Hop)) → nodes ≡ length graph.places
      → leave ≡ leave_from rule limits graph from → reach ≡ reach_to rule limits graph to → direct ≡ direct_between rule limits graph from to → AreDirect nodes leave reach direct
  directs_in from to nodes leave reach direct n l r d = rw (n, l, r, d) (directs_lead from to)

-- over an edge of the graph
abbrev IsOver : Graph → Hop → Type 0
IsOver graph hop = hop.by.edge.0 < length graph.edges

module _ (rule : Rule) (limits : DirEdge → ℕ) (graph : Graph) (facts : IsGraph graph) where
  base_over : (node : ℕ) (hop : Hop) → Contains ((network_by rule limits graph).hops node) hop → IsOver graph hop
  base_over node hop c =
      All-contains (IsOver graph) (map (hop_out rule limits graph) (around_of graph node)) hop
      (All-map (IsOver graph) (hop_out rule limits graph) (around_of graph node)
      (All-weaker (Contains (around_of graph node)) (λ (by : DirEdge). by.edge.0 < length graph.edges) (λ by b. around_edge graph node by facts b) (around_of graph node) (All-contains_itself (around_of graph node)))) c

  out_over : (spot : Spot) → IsOn graph spot → (hop : Hop) → Contains (ways_out (leave_from rule limits graph spot)) hop → IsOver graph hop
  out_over (Tower node) on hop c = absurd (omega (arith, c.1))
  out_over (Inside id mm) on hop c =
      All-contains (IsOver graph) (way_out rule limits graph id mm false ∷ way_out rule limits graph id mm true ∷ []) hop
      (pair (IsOver graph) (way_out rule limits graph id mm false) (way_out rule limits graph id mm true) on.0 on.0) c

  in_over : (spot : Spot) → IsOn graph spot → (target node : ℕ) (hop : Hop) → Contains (hops_into target node (ways_in (reach_to rule limits graph spot))) hop → IsOver graph hop
  in_over (Tower at) on target node hop c = absurd (omega (arith, c.1))
  in_over (Inside id mm) on target node hop c =
      into_so target node (IsOver graph) (way_in rule limits graph id mm false ∷ way_in rule limits graph id mm true ∷ [])
      (pair (λ (arrival : Arrival). arrival.by.edge.0 < length graph.edges) (way_in rule limits graph id mm false) (way_in rule limits graph id mm true) on.0 on.0) hop c

  direct_over : (from to : Spot) → IsOn graph from → (hop : Hop) → Contains (given (direct_between rule limits graph from to)) hop → IsOver graph hop
  direct_over (Tower node) to on hop c = absurd (omega (arith, c.1))
  direct_over (Inside e x) (Tower node) on hop c = absurd (omega (arith, c.1))
  direct_over (Inside e x) (Inside f y) on hop c = direct_so rule limits graph (IsOver graph) e x f y (λ reverse mm. on.0) hop c

  module _ (from to : Spot) (from_on : IsOn graph from) (to_on : IsOn graph to) where
    abbrev trip : Trip
    trip = trip_by rule limits graph from to

    hop_over : (node : ℕ) (hop : Hop) → Contains ((trip_network trip).hops node) hop → IsOver graph hop
    hop_over node hop c = elim (cases_Bool (nat_lt node trip.base.nodes)) [
      | inl t ↦ elim (Contains-append_cases (trip.base.hops node) (hops_into (trip.base.nodes + 1) node (ways_in trip.to)) hop (rw t at c)) [
        | inl h ↦ base_over node hop h
        | inr h ↦ in_over to to_on (trip.base.nodes + 1) node hop h
      ]
      | inr f ↦ elim (cases_Bool (node == trip.base.nodes)) [
        | inl t ↦ elim (Contains-append_cases (ways_out trip.from) (given trip.direct) hop (rw (f, t) at c)) [
          | inl h ↦ out_over from from_on hop h
          | inr h ↦ direct_over from to from_on hop h
        ]
        | inr g ↦ absurd (let h = rw (f, g) at c in omega (arith, h.1))
      ]
    ]

    -- a walk of the trip is over edges of the graph
    pub walk_over : (start target : ℕ) (hops : List Hop) → IsWalk (trip_network trip) start hops target → AreOver graph hops
    walk_over start target [] w = All-nil (IsOver graph)
    walk_over start target (hop ∷ hops) w = All-cons (IsOver graph) hop hops (hop_over start hop w.0) (walk_over hop.to.0 target hops w.2)

    pub walk_in_over : (network : Network) → network ≡ trip_network trip → (start target : ℕ) (hops : List Hop) → IsWalk network start hops target → AreOver graph hops
    walk_in_over network same start target hops w = walk_over start target hops (subst (λ (n : Network). IsWalk n start hops target) same w)

-- the nodes that stand for the ends
module _ (rule : Rule) (limits : DirEdge → ℕ) (graph : Graph) where
  start_at : (from to : Spot) → start_for from (length graph.places) ≡ trip_start (trip_by rule limits graph from to)
  start_at (Tower node) to = refl
  start_at (Inside id mm) to = refl

  pub start_is : (from to : Spot) (start towers : ℕ) → towers ≡ length graph.places → start ≡ start_for from towers → start ≡ trip_start (trip_by rule limits graph from to)
  start_is from to start towers n s = s ∙ ap (start_for from) n ∙ start_at from to

  target_at : (from to : Spot) → target_for to (length graph.places) ≡ trip_target (trip_by rule limits graph from to)
  target_at from (Tower node) = refl
  target_at from (Inside id mm) = refl

  pub target_is : (from to : Spot) (target towers : ℕ) → towers ≡ length graph.places → target ≡ target_for to towers → target ≡ trip_target (trip_by rule limits graph from to)
  target_is from to target towers n s = s ∙ ap (target_for to) n ∙ target_at from to
