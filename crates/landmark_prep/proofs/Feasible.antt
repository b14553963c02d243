-- Labels that fit along each hop give a feasible potential.
use Rattle.std.specs.Prelude.{nat_lt, ◌==◌}
use Rattle.std.proofs.Common.{◌≡◌, ℕ, ◌+◌, ◌-◌, ◌<◌, ◌≤◌, max, min, ◌^◌, unwrap_or, false, All, IfSome, IfNone, Option, Some, None, List, [], ◌∷◌, ◌++◌, Contains, refl, sym, subst, ap, ◌∙◌, inl, inr, zero, suc, arith}
use Rattle.std.proofs.lemmas.Bool.{cases_Bool, eqb-true, lt-ltb, le-ltb}
use Rattle.std.proofs.lemmas.List.Elements.{All-head, All-tail, Contains-append_cases}
use Rattle.gh_base.specs.declared.edges.NodeId.{NodeId}
use Rattle.gh_base.specs.declared.edges.Hop.{Hop}
use Rattle.gh_base.specs.declared.edges.Arrival.{Arrival}
use Rattle.gh_base.specs.Networks.{Network, LeadsToNodes}
use Rattle.walk_rules.specs.Walks.{cost, IsWalk, weight_of, IsNoFaster, NoWalk, IsAtMostEachWalk}
use Rattle.walk_rules.specs.Potentials.{IsWithin, FallsAlong, IsFeasible}
use Rattle.walk_rules.specs.Distances.{label_at}
use Rattle.walk_rules.proofs.Options.{some_of, Contains-cons_cases}
use Rattle.walk_rules.proofs.Walking.{falls_along_walk}
use Rattle.label_spread.specs.Cutting.{cut}
use Rattle.landmark_choice.specs.Farthest.{lesser}
use Rattle.query_graph.specs.declared.ends.Reach.{Reach}
use Rattle.query_graph.specs.declared.ends.Reach.TheVariants.{Node, Inside}
use Rattle.query_graph.specs.declared.ends.Leave.{Leave}
use Rattle.query_graph.specs.Ends.{given, ways_out, ways_in, ReachesIn, target_in, hop_of}
use Rattle.query_graph.specs.Joined.{hops_into, with_ends, joined}
use Rattle.landmark_prep.specs.Packing.{Labels}
use Rattle.landmark_prep.specs.Bounds.{Fits, over, greater, plus, bound_of, bound_by, bound_into, bound_to, labels_at, picked, potential_of}
use Rattle.landmark_prep.proofs.Fitting.{fits_slower}

-- each of some labels fits
abbrev AllFit : Network → List Labels → Type 0
AllFit network [] = Unit {0}
AllFit network (labels ∷ rest) = Fits network labels × AllFit network rest

-- how each word keeps within a weight
over_first : (w : ℕ) (here there last : Option ℕ) → IsWithin w there here → IsWithin w (over here last) (over there last)
over_first w None there last h y e = (0, refl, omega arith)
over_first w (Some x) None last h y e = absurd (let s = h x refl in let t = s.1 in cc)
over_first w (Some x) (Some z) None h y e = absurd (cc)
over_first w (Some x) (Some z) (Some t) h y e =
    let s = h x refl in
    let a : s.0 ≡ z = let b = s.1 in cc in
    let d : t - z ≡ y = cc in
    (t - x, refl, let b = s.2 in omega arith)

over_second : (w : ℕ) (first here there : Option ℕ) → IsWithin w here there → IsWithin w (over first here) (over first there)
over_second w None here there h y e = (0, refl, omega arith)
over_second w (Some t) here None h y e = absurd (cc)
over_second w (Some t) here (Some z) h y e =
    let s = h z refl in
    let d : z - t ≡ y = cc in
    (s.0 - t, ap (over (Some t)) s.1, let b = s.2 in omega arith)

greater_within : (w : ℕ) (p q p' q' : Option ℕ) → IsWithin w p p' → IsWithin w q q' → IsWithin w (greater p q) (greater p' q')
greater_within w p q None q' f g y e = absurd (cc)
greater_within w p q (Some a) None f g y e = absurd (cc)
greater_within w p q (Some a) (Some b) f g y e =
    let s = f a refl in
    let t = g b refl in
    let d : max a b ≡ y = cc in
    (max s.0 t.0, ap (λ (o : Option ℕ). greater o q) s.1 ∙ ap (greater (Some s.0)) t.1, let k = s.2 in let l = t.2 in omega arith)

-- the lesser of two is there where one is, and is no more
lesser_first : (w x y : ℕ) (p q : Option ℕ) → p ≡ Some x → x ≤ w + y → (z : ℕ) × (lesser p q ≡ Some z) × (z ≤ w + y)
lesser_first w x y None q e l = absurd (cc)
lesser_first w x y (Some a) None e l = (a, refl, let d : a ≡ x = cc in omega arith)
lesser_first w x y (Some a) (Some b) e l = (min a b, refl, let d : a ≡ x = cc in omega arith)

lesser_second : (w x y : ℕ) (p q : Option ℕ) → q ≡ Some x → x ≤ w + y → (z : ℕ) × (lesser p q ≡ Some z) × (z ≤ w + y)
lesser_second w x y None q e l = (x, e, l)
lesser_second w x y (Some a) None e l = absurd (cc)
lesser_second w x y (Some a) (Some b) e l = (min a b, refl, let d : b ≡ x = cc in omega arith)

lesser_within : (w : ℕ) (p q p' q' : Option ℕ) → IsWithin w p p' → IsWithin w q q' → IsWithin w (lesser p q) (lesser p' q')
lesser_within w p q None q' f g y e = let t = g y e in lesser_second w t.0 y p q t.1 t.2
lesser_within w p q (Some a) None f g y e = let s = f y e in lesser_first w s.0 y p q s.1 s.2
lesser_within w p q (Some a) (Some b) f g y e =
    let s = f a refl in
    let t = g b refl in
    let d : min a b ≡ y = cc in
    (min s.0 t.0, ap (λ (o : Option ℕ). lesser o q) s.1 ∙ ap (lesser (Some s.0)) t.1, let k = s.2 in let l = t.2 in omega arith)

plus_within : (w : ℕ) (p p' more : Option ℕ) → IsWithin w p p' → IsWithin w (plus p more) (plus p' more)
plus_within w p None more f y e = absurd (cc)
plus_within w p (Some a) None f y e = absurd (cc)
plus_within w p (Some a) (Some b) f y e =
    let s = f a refl in
    let d : a + b ≡ y = cc in
    (s.0 + b, ap (λ (o : Option ℕ). plus o (Some b)) s.1, let k = s.2 in omega arith)

pub cut_within : (limit w : ℕ) (p p' : Option ℕ) → IsWithin w p p' → IsWithin w (cut limit p) (cut limit p')
cut_within limit w p None f y e = absurd (cc)
cut_within limit w p (Some a) f y e =
    let s = f a refl in
    let d : min a limit ≡ y = cc in
    (min s.0 limit, ap (cut limit) s.1, let k = s.2 in omega arith)

-- the bound to a node
pub bound_falls : (network : Network) (active : List Labels) (target : ℕ) → AllFit network active → FallsAlong network (λ node. bound_by active node target)
bound_falls network [] target f node hop c s = λ y e. (0, refl, omega arith)
bound_falls network (labels ∷ rest) target f node hop c s =
    greater_within (cost hop) (bound_of labels node target) (bound_by rest node target) (bound_of labels hop.to.0 target) (bound_by rest hop.to.0 target)
    (greater_within (cost hop) (over (label_at labels.from node) (label_at labels.from target)) (over (label_at labels.to target) (label_at labels.to node)) (over (label_at labels.from hop.to.0) (label_at labels.from target)) (over (label_at labels.to target) (label_at labels.to hop.to.0))
    (over_first (cost hop) (label_at labels.from node) (label_at labels.from hop.to.0) (label_at labels.from target) (f.0.rises node hop c s))
    (over_second (cost hop) (label_at labels.to target) (label_at labels.to node) (label_at labels.to hop.to.0) (f.0.falls node hop c s)))
    (bound_falls network rest target f.1 node hop c s)

over_itself : (o : Option ℕ) → over o o ≡ Some 0
over_itself None = refl
over_itself (Some x) = ap Some (omega arith)

pub bound_at_target : (active : List Labels) (target : ℕ) → bound_by active target target ≡ Some 0
bound_at_target [] target = refl
bound_at_target (labels ∷ rest) target = rw (over_itself (label_at labels.from target), over_itself (label_at labels.to target), bound_at_target rest target) refl

-- the bound into an edge
pub into_falls : (network : Network) (active : List Labels) (arrivals : List Arrival) → AllFit network active → FallsAlong network (bound_into active arrivals)
into_falls network active [] f node hop c s = λ y e. absurd (cc)
into_falls network active (arrival ∷ arrivals) f node hop c s =
    lesser_within (cost hop) (plus (bound_by active node arrival.at.0) arrival.weight) (bound_into active arrivals node) (plus (bound_by active hop.to.0 arrival.at.0) arrival.weight) (bound_into active arrivals hop.to.0)
    (plus_within (cost hop) (bound_by active node arrival.at.0) (bound_by active hop.to.0 arrival.at.0) arrival.weight (bound_falls network active arrival.at.0 f node hop c s))
    (into_falls network active arrivals f node hop c s)

-- no more than the weight of a way in, where that begins
pub into_at : (active : List Labels) (arrivals : List Arrival) (arrival : Arrival) (weight : ℕ) → Contains arrivals arrival → arrival.weight ≡ Some weight → (x : ℕ) × (bound_into active arrivals arrival.at.0 ≡ Some x) × (x ≤ weight + 0)
into_at active [] arrival weight c e = absurd (omega (arith, c.1))
into_at active (first ∷ arrivals) arrival weight c e = elim (Contains-cons_cases first arrivals arrival c) [
  | inl same ↦
      let here : plus (bound_by active arrival.at.0 first.at.0) first.weight ≡ Some (0 + weight) =
      ap (λ (a : Arrival). plus (bound_by active arrival.at.0 a.at.0) a.weight) same ∙ (ap (λ (o : Option ℕ). plus o arrival.weight) (bound_at_target active arrival.at.0) ∙ ap (plus (Some 0)) e) in
      lesser_first weight (0 + weight) 0 (plus (bound_by active arrival.at.0 first.at.0) first.weight) (bound_into active arrivals arrival.at.0) here (omega arith)
  | inr later ↦
      let rest = into_at active arrivals arrival weight later e in
      lesser_second weight rest.0 0 (plus (bound_by active arrival.at.0 first.at.0) first.weight) (bound_into active arrivals arrival.at.0) rest.1 rest.2
]

into_arrival : (target node : ℕ) (arrivals : List Arrival) (hop : Hop) → Contains (hops_into target node arrivals) hop → (arrival : Arrival) × Contains arrivals arrival × (arrival.at.0 ≡ node) × (arrival.weight ≡ hop.weight) × (hop.to.0 ≡ target)
into_arrival target node [] hop c = absurd (omega (arith, c.1))
into_arrival target node (arrival ∷ arrivals) hop c = elim (cases_Bool (arrival.at.0 == node)) [
  | inl t ↦ elim (Contains-cons_cases (hop_of target arrival) (hops_into target node arrivals) hop (rw t at c)) [
    | inl e ↦ (arrival, (0, omega arith, refl), eqb-true arrival.at.0 node t, ap (λ (h : Hop). h.weight) e, ap (λ (h : Hop). h.to.0) (sym e))
    | inr l ↦ let rest = into_arrival target node arrivals hop l in (rest.0, (suc rest.1.0, omega (arith, rest.1.1), rest.1.2), rest.2, rest.3, rest.4)
  ]
  | inr f ↦ let rest = into_arrival target node arrivals hop (rw f at c) in (rest.0, (suc rest.1.0, omega (arith, rest.1.1), rest.1.2), rest.2, rest.3, rest.4)
]

-- The bounds of the network, and 0 at the nodes that a query adds: they fall along the hops of the query if each way in weighs no less than the bound where it begins.
pub with_ends_falls : (base : Network) (leaving : List Hop) (arrivals : List Arrival) (active : List Labels) (goal : Reach) → LeadsToNodes base → ((arrival : Arrival) (weight : ℕ) → Contains arrivals arrival → arrival.weight ≡ Some weight → (x : ℕ) × (bound_to active goal arrival.at.0 ≡ Some x) × (x ≤ weight + 0)) → FallsAlong base (bound_to active goal) → FallsAlong (with_ends base leaving arrivals) (potential_of active goal base.nodes)
with_ends_falls base leaving arrivals active goal r i falls node hop c s = elim (cases_Bool (nat_lt node base.nodes)) [
  | inl t ↦ elim (Contains-append_cases (base.hops node) (hops_into (base.nodes + 1) node arrivals) hop (rw t at c)) [
    | inl h ↦ let n = lt-ltb hop.to.0 base.nodes (r node hop h) in rw (t, n) (falls node hop h s)
    | inr h ↦
        let a = into_arrival (base.nodes + 1) node arrivals hop h in
        let w = some_of hop.weight s in
        let b = i a.0 w.0 a.1 (a.3 ∙ w.1) in
        let past : nat_lt hop.to.0 base.nodes ≡ false = le-ltb hop.to.0 base.nodes (omega (arith, a.4)) in
        let weighs : cost hop ≡ w.0 = ap (λ (o : Option ℕ). unwrap_or o 0) w.1 in
        rw (t, past) (λ y e. (b.0, ap (bound_to active goal) (sym a.2) ∙ b.1, let z : 0 ≡ y = cc in let d = b.2 in omega arith))
  ]
  | inr g ↦ rw g (λ y e. (0, refl, omega arith))
]

-- labels that fit, by place; past the end there are none
fit_at : (network : Network) (labels : List Labels) → All (Fits network) labels → (place : ℕ) → Fits network (labels_at labels place)
fit_at network [] f place = record { rises = λ node hop c s y e. absurd (cc); falls = λ node hop c s y e. absurd (cc) }
fit_at network (l ∷ labels) f zero = All-head (Fits network) l labels f
fit_at network (l ∷ labels) f (suc place) = fit_at network labels (All-tail (Fits network) l labels f) place

pub picked_fit : (base network : Network) (labels : List Labels) → IsNoFaster base network → All (Fits base) labels → (places : List ℕ) → AllFit network (picked labels places)
picked_fit base network labels n f [] = tt
picked_fit base network labels n f (place ∷ places) = (fits_slower base network (labels_at labels place) n (fit_at base labels f place), picked_fit base network labels n f places)

-- what is left of a walk is no less than the bound
pub bound_below : (network : Network) (active : List Labels) → AllFit network active → (hops : List Hop) (node target : ℕ) → IsWalk network node hops target → (x : ℕ) × (bound_by active node target ≡ Some x) × (x ≤ weight_of hops)
bound_below network active f hops node target w =
    let b = falls_along_walk network (λ v. bound_by active v target) (bound_falls network active target f) hops node target w 0 (bound_at_target active target) in
    (b.0, b.1, omega arith)

no_faster_itself : (network : Network) → IsNoFaster network network
no_faster_itself network node hop c s = (hop, c, s, refl, omega arith)

-- what is left of each walk is no less than the bound of some landmarks
module _ (network : Network) (labels : List Labels) (places : List ℕ) (node target : ℕ) where
  below : All (Fits network) labels → (hops : List Hop) → IsWalk network node hops target → (x : ℕ) × (bound_by (picked labels places) node target ≡ Some x) × (x ≤ weight_of hops)
  below fit hops walk = bound_below network (picked labels places) (picked_fit network network labels (no_faster_itself network) fit places) hops node target walk

  pub some_below : (result : Option ℕ) → result ≡ bound_by (picked labels places) node target → All (Fits network) labels → IfSome result (λ b. IsAtMostEachWalk network node target b)
  some_below None is fit = tt
  some_below (Some b) is fit = λ others walk.
      let h = below fit others walk in
      let same : b ≡ h.0 = let e = h.1 in cc in
      let l = h.2 in omega arith

  pub none_no_walk : (result : Option ℕ) → result ≡ bound_by (picked labels places) node target → All (Fits network) labels → IfNone result (NoWalk network node target)
  none_no_walk (Some b) is fit = tt
  none_no_walk None is fit = λ hops walk. absurd (let h = below fit hops walk in let e = h.1 in cc)

module _ (network : Network) (active : List Labels) (leaving : List Hop) (r : LeadsToNodes network) (f : AllFit network active) where
  node_feasible : (target : NodeId) → target.0 < network.nodes → IsFeasible (with_ends network leaving []) (potential_of active (Node target) network.nodes) target.0
  node_feasible target l = record {
    at_target = let t = lt-ltb target.0 network.nodes l in rw t (bound_at_target active target.0);
    along = with_ends_falls network leaving [] active (Node target) r (λ arrival weight a e. absurd (omega (arith, a.1))) (bound_falls network active target.0 f);
  }

  inside_feasible : (arrivals : List Arrival) → IsFeasible (with_ends network leaving arrivals) (potential_of active (Inside arrivals) network.nodes) (network.nodes + 1)
  inside_feasible arrivals = record {
    at_target = let t = le-ltb (network.nodes + 1) network.nodes (omega arith) in rw t refl;
    along = with_ends_falls network leaving arrivals active (Inside arrivals) r
        (λ arrival weight a e. let x = into_at active arrivals arrival weight a e in (min x.0 (2 ^ 62), ap (cut (2 ^ 62)) x.1, let d = x.2 in omega arith))
        (λ v h d t. cut_within (2 ^ 62) (cost h) (bound_into active arrivals v) (bound_into active arrivals h.to.0) (into_falls network active arrivals f v h d t));
  }

  goal_feasible : (goal : Reach) → ReachesIn network.nodes goal → IsFeasible (with_ends network leaving (ways_in goal)) (potential_of active goal network.nodes) (target_in network goal)
  goal_feasible (Node target) l = node_feasible target l
  goal_feasible (Inside arrivals) l = inside_feasible arrivals

-- the potential of landmarks whose labels fit a network, over one that is no faster, between any two places
pub potential_feasible : (base network : Network) (labels : List Labels) (places : List ℕ) (count : ℕ) (from : Leave) (goal : Reach) (direct : List (Option Hop)) → All (Fits base) labels → IsNoFaster base network → LeadsToNodes network → network.nodes ≡ count → ReachesIn count goal → IsFeasible (joined network from goal direct) (potential_of (picked labels places) goal count) (target_in network goal)
potential_feasible base network labels places count from goal direct fit n leads e within =
    subst (λ (k : ℕ). IsFeasible (joined network from goal direct) (potential_of (picked labels places) goal k) (target_in network goal)) e
    (goal_feasible network (picked labels places) (ways_out from ++ given direct) leads (picked_fit base network labels n fit places) goal (subst (λ (k : ℕ). ReachesIn k goal) (sym e) within))
