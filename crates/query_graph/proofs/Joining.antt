-- The walks of a base with a start and a target are those between the two places.
use Rattle.std.specs.Prelude.{◌==◌}
use Rattle.std.proofs.Common.{◌≡◌, ℕ, ◌+◌, ◌<◌, ◌⊎◌, true, Option, List, [], ◌∷◌, ◌++◌, IsSome, All, Contains, refl, sym, subst, ap, ◌∙◌, inl, inr, suc, arith}
use Rattle.std.proofs.lemmas.Bool.{cases_Bool, eqb-true, eq-eqb, lt-ltb, le-ltb, ne_eqb}
use Rattle.std.proofs.lemmas.List.Elements.{All-contains, Contains-append_left, Contains-append_right, Contains-append_cases}
use Rattle.gh_base.specs.declared.edges.Hop.{Hop}
use Rattle.gh_base.specs.declared.edges.Arrival.{Arrival}
use Rattle.gh_base.specs.Networks.{Network, LeadsToNodes}
use Rattle.walk_rules.specs.Walks.{hops_from, IsWalk}
use Rattle.walk_rules.proofs.Walking.{walk_push}
use Rattle.query_graph.specs.declared.ends.Leave.{Leave}
use Rattle.query_graph.specs.declared.ends.Leave.TheVariants.{Node as FromNode, Inside as FromInside}
use Rattle.query_graph.specs.declared.ends.Reach.{Reach}
use Rattle.query_graph.specs.declared.ends.Reach.TheVariants.{Node as ToNode, Inside as ToInside}
use Rattle.query_graph.specs.Ends.{given, ways_out, ways_in, LeavesIn, ReachesIn, are_inside, AreDirect, start_in, target_in, hop_of}
use Rattle.query_graph.specs.Between.{WalksIn, Arrives, IsBetween}
use Rattle.query_graph.specs.Joined.{hops_into, with_ends, joined, first_or_later}

-- the pieces out of a start lead to nodes of the base
pub out_leads : (nodes : ℕ) (from : Leave) → LeavesIn nodes from → All (λ hop. hop.to.0 < nodes) (ways_out from)
out_leads nodes (FromNode node) l = λ k hop h. absurd (omega (arith, h))
out_leads nodes (FromInside hops) l = l

-- a way in is a hop of the node where it stands, and each such hop is a way in
way_in : (target : ℕ) (arrivals : List Arrival) (arrival : Arrival) → Contains arrivals arrival → Contains (hops_into target arrival.at.0 arrivals) (hop_of target arrival)
way_in target [] arrival c = absurd (omega (arith, c.1))
way_in target (first ∷ arrivals) arrival c = elim (first_or_later first arrivals arrival c) [
  | inl same ↦
      let t : (first.at.0 == arrival.at.0) ≡ true = eq-eqb first.at.0 arrival.at.0 (ap (λ (a : Arrival). a.at.0) same) in
      rw t (0, omega arith, ap (hop_of target) same)
  | inr later ↦
      let rest = way_in target arrivals arrival later in
      elim (cases_Bool (first.at.0 == arrival.at.0)) [
        | inl t ↦ rw t (suc rest.0, omega (arith, rest.1), rest.2)
        | inr f ↦ rw f rest
      ]
]

from_way_in : (target node : ℕ) (arrivals : List Arrival) (hop : Hop) → Contains (hops_into target node arrivals) hop → (arrival : Arrival) × Contains arrivals arrival × (arrival.at.0 ≡ node) × (hop_of target arrival ≡ hop)
from_way_in target node [] hop c = absurd (omega (arith, c.1))
from_way_in target node (arrival ∷ arrivals) hop c = elim (cases_Bool (arrival.at.0 == node)) [
  | inl t ↦ elim (first_or_later (hop_of target arrival) (hops_into target node arrivals) hop (rw t at c)) [
    | inl e ↦ (arrival, (0, omega arith, refl), eqb-true arrival.at.0 node t, e)
    | inr l ↦ let rest = from_way_in target node arrivals hop l in (rest.0, (suc rest.1.0, omega (arith, rest.1.1), rest.1.2), rest.2, rest.3)
  ]
  | inr f ↦ let rest = from_way_in target node arrivals hop (rw f at c) in (rest.0, (suc rest.1.0, omega (arith, rest.1.1), rest.1.2), rest.2, rest.3)
]

module _ (base : Network) (leaving : List Hop) (arrivals : List Arrival) (r : LeadsToNodes base) where
  abbrev all : Network
  all = with_ends base leaving arrivals

  -- the hops of a node of the base, of the start, and of the target
  base_hops : (node : ℕ) (hop : Hop) → node < base.nodes → Contains (hops_from all node) hop → Contains (hops_from base node) hop ⊎ Contains (hops_into (base.nodes + 1) node arrivals) hop
  base_hops node hop l c = let t = lt-ltb node base.nodes l in Contains-append_cases (base.hops node) (hops_into (base.nodes + 1) node arrivals) hop (rw t at c)

  base_hop : (node : ℕ) (hop : Hop) → node < base.nodes → Contains (hops_from base node) hop → Contains (hops_from all node) hop
  base_hop node hop l c = let t = lt-ltb node base.nodes l in rw t (Contains-append_left (base.hops node) (hops_into (base.nodes + 1) node arrivals) hop c)

  last_hop : (arrival : Arrival) → arrival.at.0 < base.nodes → Contains arrivals arrival → Contains (hops_from all arrival.at.0) (hop_of (base.nodes + 1) arrival)
  last_hop arrival l c = let t = lt-ltb arrival.at.0 base.nodes l in rw t (Contains-append_right (base.hops arrival.at.0) (hops_into (base.nodes + 1) arrival.at.0 arrivals) (hop_of (base.nodes + 1) arrival) (way_in (base.nodes + 1) arrivals arrival c))

  start_hops : (hop : Hop) → Contains (hops_from all base.nodes) hop → Contains leaving hop
  start_hops hop c = let t = le-ltb base.nodes base.nodes (omega arith) in let e = eq-eqb base.nodes base.nodes refl in rw (t, e) at c

  start_hop : (hop : Hop) → Contains leaving hop → Contains (hops_from all base.nodes) hop
  start_hop hop c = let t = le-ltb base.nodes base.nodes (omega arith) in let e = eq-eqb base.nodes base.nodes refl in rw (t, e) c

  -- nothing leaves the target
  stuck : (hops : List Hop) (b : ℕ) → IsWalk all (base.nodes + 1) hops b → (hops ≡ []) × (base.nodes + 1 ≡ b)
  stuck [] b w = (refl, w)
  stuck (hop ∷ hops) b w = absurd (
      let t = le-ltb (base.nodes + 1) base.nodes (omega arith) in
      let e = ne_eqb (base.nodes + 1) base.nodes (λ same. omega arith) in
      let h = rw (t, e) at w.0 in omega (arith, h.1))

  up : (hops : List Hop) (a b : ℕ) → a < base.nodes → IsWalk base a hops b → IsWalk all a hops b
  up [] a b l w = w
  up (hop ∷ hops) a b l w = (base_hop a hop l w.0, w.1, up hops hop.to.0 b (r a hop w.0) w.2)

  ends_within : (hops : List Hop) (a b : ℕ) → a < base.nodes → IsWalk base a hops b → b < base.nodes
  ends_within [] a b l w = omega arith
  ends_within (hop ∷ hops) a b l w = ends_within hops hop.to.0 b (r a hop w.0) w.2

  -- a walk to the target ends by a way in
  into : (hops : List Hop) (a : ℕ) → a < base.nodes → IsWalk all a hops (base.nodes + 1) → WalksIn base a arrivals hops
  into [] a l w = absurd (omega arith)
  into (hop ∷ hops) a l w = elim (base_hops a hop l w.0) [
    | inl h ↦
        let rest = into hops hop.to.0 (r a hop h) w.2 in
        record { inner = hop ∷ rest.inner; arrival = rest.arrival; way = rest.way; has_weight = rest.has_weight; walk = (h, w.1, rest.walk); hops_are = ap (λ (xs : List Hop). hop ∷ xs) rest.hops_are }
    | inr h ↦
        let a' = from_way_in (base.nodes + 1) a arrivals hop h in
        let to : hop.to.0 ≡ base.nodes + 1 = ap (λ (h : Hop). h.to.0) (sym a'.3) in
        let end = stuck hops (base.nodes + 1) (subst (λ (n : ℕ). IsWalk all n hops (base.nodes + 1)) to w.2) in
        record {
          inner = [];
          arrival = a'.0;
          way = a'.1;
          has_weight = subst (λ (h : Hop). IsSome h.weight) (sym a'.3) w.1;
          walk = sym a'.2;
          hops_are = ap (λ (xs : List Hop). hop ∷ xs) end.0 ∙ ap (λ (h : Hop). h ∷ []) (sym a'.3);
        }
  ]

  -- a walk to a node of the base takes no way in
  inner : (hops : List Hop) (a b : ℕ) → a < base.nodes → b < base.nodes → IsWalk all a hops b → IsWalk base a hops b
  inner [] a b l m w = w
  inner (hop ∷ hops) a b l m w = elim (base_hops a hop l w.0) [
    | inl h ↦ (h, w.1, inner hops hop.to.0 b (r a hop h) m w.2)
    | inr h ↦ absurd (
        let a' = from_way_in (base.nodes + 1) a arrivals hop h in
        let to : hop.to.0 ≡ base.nodes + 1 = ap (λ (h : Hop). h.to.0) (sym a'.3) in
        let end = stuck hops b (subst (λ (n : ℕ). IsWalk all n hops b) to w.2) in
        let e = end.1 in omega arith)
  ]

  out_of : (hops : List Hop) (a : ℕ) → a < base.nodes → WalksIn base a arrivals hops → IsWalk all a hops (base.nodes + 1)
  out_of hops a l w =
      let on = walk_push all w.inner (hop_of (base.nodes + 1) w.arrival) a w.arrival.at.0 (base.nodes + 1) (up w.inner a w.arrival.at.0 l w.walk) (last_hop w.arrival (ends_within w.inner a w.arrival.at.0 l w.walk) w.way) w.has_weight refl in
      subst (λ (xs : List Hop). IsWalk all a xs (base.nodes + 1)) (sym w.hops_are) on.0

-- from a node of the base on, both ways
reaches : (base : Network) (leaving : List Hop) (to : Reach) → LeadsToNodes base → ReachesIn base.nodes to → (hops : List Hop) (a : ℕ) → a < base.nodes → IsWalk (with_ends base leaving (ways_in to)) a hops (target_in base to) → Arrives base a to hops
reaches base leaving (ToNode target) r e hops a l w = inner base leaving [] r hops a target.0 l e w
reaches base leaving (ToInside arrivals) r e hops a l w = into base leaving arrivals r hops a l w

back_from : (base : Network) (leaving : List Hop) (to : Reach) → LeadsToNodes base → (hops : List Hop) (a : ℕ) → a < base.nodes → Arrives base a to hops → IsWalk (with_ends base leaving (ways_in to)) a hops (target_in base to)
back_from base leaving (ToNode target) r hops a l w = up base leaving [] r hops a target.0 l w
back_from base leaving (ToInside arrivals) r hops a l w = out_of base leaving arrivals r hops a l w

not_start : (base : Network) (to : Reach) → ReachesIn base.nodes to → base.nodes ≡ target_in base to → ⊥
not_start base (ToNode target) e s = omega arith
not_start base (ToInside arrivals) e s = omega arith

not_past : (base : Network) (leave : Leave) (to : Reach) → ReachesIn base.nodes to → are_inside leave to ≡ true → base.nodes + 1 ≡ target_in base to
not_past base (FromInside hops) (ToInside arrivals) e b = refl
not_past base (FromInside hops) (ToNode target) e b = absurd (cc)
not_past base (FromNode node) (ToInside arrivals) e b = absurd (cc)
not_past base (FromNode node) (ToNode target) e b = absurd (cc)

module _ (base : Network) (to : Reach) (direct : List (Option Hop)) (leads : LeadsToNodes base) (e : ReachesIn base.nodes to) where
  pub between : (from : Leave) → LeavesIn base.nodes from → AreDirect base.nodes from to direct → (hops : List Hop) → IsWalk (joined base from to direct) (start_in base from) hops (target_in base to) → IsBetween base from to direct hops
  between (FromNode node) s d hops w = reaches base (given direct) to leads e hops node.0 s w
  between (FromInside ways) s d [] w = absurd (not_start base to e w)
  between (FromInside ways) s d (hop ∷ hops) w =
      elim (Contains-append_cases ways (given direct) hop (start_hops base (ways ++ given direct) (ways_in to) leads hop w.0)) [
        | inl h ↦
            let inside = All-contains (λ (hop : Hop). hop.to.0 < base.nodes) ways hop s h in
            inl (record { first = hop; rest = hops; way = h; has_weight = w.1; walk = reaches base (ways ++ given direct) to leads e hops hop.to.0 inside w.2; hops_are = refl })
        | inr h ↦
            let end = stuck base (ways ++ given direct) (ways_in to) leads hops (target_in base to) (subst (λ (n : ℕ). IsWalk (joined base (FromInside ways) to direct) n hops (target_in base to)) (d hop h).0 w.2) in
            inr (record { hop = hop; way = h; has_weight = w.1; hops_are = ap (λ (xs : List Hop). hop ∷ xs) end.0 })
      ]

  pub walks_between : (from : Leave) → LeavesIn base.nodes from → AreDirect base.nodes from to direct → (hops : List Hop) → IsBetween base from to direct hops → IsWalk (joined base from to direct) (start_in base from) hops (target_in base to)
  walks_between (FromNode node) s d hops w = back_from base (given direct) to leads hops node.0 s w
  walks_between (FromInside ways) s d hops (inl w) =
      let inside = All-contains (λ (hop : Hop). hop.to.0 < base.nodes) ways w.first s w.way in
      subst (λ (xs : List Hop). IsWalk (joined base (FromInside ways) to direct) base.nodes xs (target_in base to)) (sym w.hops_are)
      (start_hop base (ways ++ given direct) (ways_in to) leads w.first (Contains-append_left ways (given direct) w.first w.way), w.has_weight, back_from base (ways ++ given direct) to leads w.rest w.first.to.0 inside w.walk)
  walks_between (FromInside ways) s d hops (inr w) =
      subst (λ (xs : List Hop). IsWalk (joined base (FromInside ways) to direct) base.nodes xs (target_in base to)) (sym w.hops_are)
      (start_hop base (ways ++ given direct) (ways_in to) leads w.hop (Contains-append_right ways (given direct) w.hop w.way), w.has_weight, (d w.hop w.way).0 ∙ not_past base (FromInside ways) to e (d w.hop w.way).1)
