-- The listing of a landmark's labels is evidence of them: each item is reached by those before it, and each node that has a label is listed.
use Rattle.std.specs.Option.{option_map}
use Rattle.std.specs.Prelude.{nat_lt}
use Rattle.std.proofs.Common.{◌≡◌, ℕ, ◌+◌, ◌*◌, ◌/◌, ◌≤◌, min, false, Option, Some, None, is_some, unwrap_or, List, [], ◌∷◌, ◌++◌, IsSome, Contains, zero, suc, refl, sym, subst, ap, ◌∙◌, inl, inr, append_assoc, append-nil, arith}
use Rattle.std.proofs.Math.Nat.{mul-le-mul_left}
use Rattle.std.proofs.lemmas.Bool.{cases_lt}
use Rattle.std.proofs.lemmas.Bool.Decides.{nat_tests}
use Rattle.gh_base.specs.declared.edges.Hop.{Hop}
use Rattle.gh_base.specs.Networks.{Network}
use Rattle.walk_rules.specs.Walks.{hops_from, IsWalk, weight_of, cost}
use Rattle.walk_rules.specs.Potentials.{IsWithin, RisesAlong}
use Rattle.walk_rules.specs.Distances.{in_grains, rounded, rounded_hop, IsLabel, AreLabelsFrom}
use Rattle.walk_rules.specs.Evidence.{is_violated}
use Rattle.walk_rules.proofs.Walking.{walk_push, rises_along_walk}
use Rattle.walk_rules.proofs.Single.{one_label}
use Rattle.walk_rules.proofs.Options.{some_or_none}
use Rattle.label_spread.specs.Cutting.{Contains-map_from}
use Rattle.landmark_prep.specs.Packing.{in_ms}
use Rattle.landmark_prep.proofs.Graining.{Contains-map, whole_grains}
use Rattle.prep_store.specs.declared.item.Item.{Item}
use Rattle.prep_store.specs.Evidence.{label_in, label_after, MayAllFollow, IsClosedAt, IsEvidence}
use Rattle.prep_store.specs.Writing.{IsCandidate, AreNext, IsListing}
use Rattle.prep_store.proofs.Attained.{scaled_min, evidence_tells}
use Rattle.prep_store.proofs.Candidates.{same_factor}
use Rattle.prep_store.proofs.Lookups.{label_here, label_past, label_push_cases, same_or_not, no_some}

-- a node has the label 0 from itself
own_label : (network : Network) (limit node : ℕ) (label : Option ℕ) → IsLabel network limit node node label → label ≡ Some 0
own_label network limit node None none = absurd (none [] refl)
own_label network limit node (Some y) near = let le : y ≤ 0 = near.least [] refl in let zero_is : y ≡ 0 = omega arith in ap Some zero_is

-- no label of a head is over its tail's and the weight
rise : (network : Network) (limit from node : ℕ) (hop : Hop) (here there : Option ℕ) → Contains (hops_from network node) hop → IsSome hop.weight → IsLabel network limit from node here → IsLabel network limit from hop.to.0 there → IsWithin (cost hop) there here
rise network limit from node hop None there c s l m x e = absurd (no_some e)
rise network limit from node hop (Some z) None c s l m x e = absurd (m (l.hops ++ hop ∷ []) (walk_push network l.hops hop from node hop.to.0 l.walk c s refl).0)
rise network limit from node hop (Some z) (Some y) c s l m x e =
    let on = walk_push network l.hops hop from node hop.to.0 l.walk c s refl in
    let same : z ≡ x = cc in
    (y, refl, let p = m.least (l.hops ++ hop ∷ []) on.0 in let q = on.1 in let r = l.weight in let t = m.weight in omega arith)

-- a multiple of a grain that isn't over another's
less_factor : (n a b : ℕ) → 1 ≤ n → n * a ≤ n * b → a ≤ b
less_factor n a b pos le = elim (cases_lt b a) [
  | inr ge ↦ ge
  | inl lt ↦ let more : n * (b + 1) ≤ n * a = mul-le-mul_left n (omega arith) in absurd (omega arith)
]

-- the label of an item that stands in a list
contained_label : (xs : List Item) (item : Item) → Contains xs item → (label : ℕ) × (label_in xs item.node.0 ≡ Some label)
contained_label [] item c = absurd (omega (arith, c.1))
contained_label (x ∷ xs) item (zero, l, e) = (x.label, label_here x xs item.node.0 (ap (λ (i : Item). i.node.0) e))
contained_label (x ∷ xs) item (suc k, l, e) = elim (same_or_not x.node.0 item.node.0) [
  | inl s ↦ (x.label, label_here x xs item.node.0 s)
  | inr n ↦ let rest = contained_label xs item (k, omega arith, e) in (rest.0, label_past x xs item.node.0 n ∙ rest.1)
]

-- a hop that isn't open
not_open : (grain x : ℕ) (tail weight head : Option ℕ) → tail ≡ Some x → ((w : ℕ) → weight ≡ Some w → (y : ℕ) × (head ≡ Some y) × (y ≤ x + w / grain)) → is_violated tail (option_map (λ w. w / grain) weight) head ≡ false
not_open grain x tail None head t f = refl
not_open grain x tail (Some w) head t f = let h = f w refl in shut tail head h.0 t h.1 h.2
  where
    below : (a b : ℕ) → b ≤ a → nat_lt a b ≡ false
    below a b le = grind (arith, nat_tests)

    shut : (tail head : Option ℕ) (z : ℕ) → tail ≡ Some x → head ≡ Some z → z ≤ x + w / grain → is_violated tail (Some (w / grain)) head ≡ false
    shut tail head z t h le = rw (t, h) (below (x + w / grain) z le)

module _ (network : Network) (grain landmark : ℕ) (labels : ℕ → Option ℕ) where
  abbrev AreTold : List Item → Type 0
  AreTold listed = (node label : ℕ) → label_in listed node ≡ Some label → labels node ≡ Some (grain * label)

  all_told : (listed items : List Item) → AreTold listed → AreNext network grain labels listed items → AreTold (listed ++ items)
  all_told listed [] told n = subst AreTold (sym (append-nil listed)) told
  all_told listed (item ∷ items) told n =
      subst AreTold (append_assoc listed (item ∷ []) items)
      (all_told (listed ++ item ∷ []) items (λ node label e. elim (label_push_cases listed item node label e) [
        | inl l ↦ told node label l
        | inr r ↦ subst (λ (k : ℕ). labels k ≡ Some (grain * label)) r.0 (n.0.candidate.label ∙ ap (λ (l : ℕ). Some (grain * l)) r.1)
      ]) n.1)

  all_follow : (first : Item) (listed items : List Item) → AreNext network grain labels (first ∷ listed) items → MayAllFollow network grain landmark (first ∷ listed) items
  all_follow first listed [] n = tt
  all_follow first listed (item ∷ items) n = ((n.0.candidate.new, n.0.candidate.reached), all_follow first (listed ++ item ∷ []) items n.1)

  none_left : (listed items : List Item) → AreNext network grain labels listed items → (item : Item) → IsCandidate network grain labels (listed ++ items) item → ⊥
  none_left listed [] n item c = n item (subst (λ (is : List Item). IsCandidate network grain labels is item) (append-nil listed) c)
  none_left listed (x ∷ items) n item c =
      none_left (listed ++ x ∷ []) items n.1 item (subst (λ (is : List Item). IsCandidate network grain labels is item) (sym (append_assoc listed (x ∷ []) items)) c)

module _ (network : Network) (grain landmark : ℕ) (labels : ℕ → Option ℕ) (fine : 1 ≤ grain) (are : AreLabelsFrom (in_grains grain network) (65534 * grain) landmark labels)
    (first : Item) (rest : List Item) (at_first : first.node.0 ≡ landmark) (label_first : first.label ≡ 0) (next : AreNext network grain labels (first ∷ []) rest) where
  abbrev items : List Item
  items = first ∷ rest

  abbrev roads : Network
  roads = in_grains grain network

  at_landmark : labels landmark ≡ Some 0
  at_landmark = own_label roads (65534 * grain) landmark (labels landmark) (are landmark)

  told : (node label : ℕ) → label_in items node ≡ Some label → labels node ≡ Some (grain * label)
  told = all_told network grain landmark labels (first ∷ []) rest
      (λ node label e. elim (same_or_not first.node.0 node) [
        | inl s ↦
            let same : Some first.label ≡ Some label = sym (label_here first [] node s) ∙ e in
            let is : label ≡ 0 = cc in
            let none : 0 ≡ grain * 0 = omega arith in
            subst (λ (k : ℕ). labels k ≡ Some (grain * label)) (sym at_first ∙ s) (at_landmark ∙ (ap Some none ∙ ap (λ (k : ℕ). Some (grain * k)) (sym is)))
        | inr n ↦ absurd (no_some (sym (label_past first [] node n) ∙ e))
      ]) next

  first_listed : label_in items landmark ≡ Some 0
  first_listed = label_here first rest landmark at_first ∙ ap Some label_first

  rises : RisesAlong roads labels
  rises node hop c s = rise roads (65534 * grain) landmark node hop (labels node) (labels hop.to.0) c s (are node) (are hop.to.0)

  -- a label is a number of grains
  whole : (node y : ℕ) → labels node ≡ Some y → (l : ℕ) × (y ≡ grain * l) × (l ≤ 65534)
  whole node y e =
      let near = subst (λ (o : Option ℕ). IsLabel roads (65534 * grain) landmark node o) e (are node) in
      let k = whole_grains grain network near.hops landmark node near.walk in
      (min k.0 65534, near.weight ∙ sym (scaled_min grain k.0 (min k.0 65534) (weight_of near.hops) k.1 refl), omega arith)

  -- where a hop from a listed node gives a node its label, it is listed
  given_listed : (node label weight l : ℕ) (hop : Hop) → label_in items node ≡ Some label → Contains (hops_from network node) hop → hop.weight ≡ Some weight → labels hop.to.0 ≡ Some (grain * l) → l ≡ label_after grain label weight →
      label_in items hop.to.0 ≡ Some l
  given_listed node label weight l hop at c w t e = elim (some_or_none (label_in items hop.to.0)) [
    | inl s ↦
        let two : Some (grain * s.0) ≡ Some (grain * l) = sym (told hop.to.0 s.0 s.1) ∙ t in
        let products : grain * s.0 ≡ grain * l = cc in
        s.1 ∙ ap Some (same_factor grain s.0 l fine products)
    | inr n ↦ absurd (none_left network grain landmark labels (first ∷ []) rest next (record { node = hop.to; label = l })
        (record { label = t; new = n; reached = record { node = node; label = label; label_is = at; hop = hop; leaves = c; leads = refl; weight = weight; weighs = w; gives = e } }))
  ]

  -- a hop in grains is that of the network
  base_of : (node : ℕ) (hop : Hop) → Contains (hops_from roads node) hop → IsSome hop.weight →
      (base : Hop) × (w : ℕ) × Contains (hops_from network node) base × (base.weight ≡ Some w) × (base.to.0 ≡ hop.to.0) × (cost hop ≡ grain * (w / grain))
  base_of node hop c s =
      let from = Contains-map_from (rounded_hop grain) (network.hops node) hop c in
      let base = from.0 in
      elim (some_or_none base.weight) [
        | inr none ↦ absurd (let bad : IsSome (rounded grain None) = subst (λ (o : Option ℕ). IsSome (rounded grain o)) none (subst (λ (h : Hop). IsSome h.weight) (sym from.2) s) in cc)
        | inl w ↦ (base, w.0, from.1, w.1, ap (λ (h : Hop). h.to.0) from.2, sym (ap cost from.2) ∙ ap (λ (o : Option ℕ). unwrap_or (rounded grain o) 0) w.1)
      ]

  -- along a walk that attains the label of its end each node is listed
  attained_listed : (hops : List Hop) (node label end : ℕ) → IsWalk roads node hops end → label_in items node ≡ Some label → labels end ≡ Some (grain * label + weight_of hops) → (l : ℕ) × (label_in items end ≡ Some l)
  attained_listed [] node label end walk at t = (label, subst (λ (n : ℕ). label_in items n ≡ Some label) walk at)
  attained_listed (hop ∷ hops) node label end walk at t =
      let b = base_of node hop walk.0 walk.1 in
      let up = rises node hop walk.0 walk.1 (grain * label) (told node label at) in
      let on = rises_along_walk roads labels rises hops hop.to.0 end walk.2 up.0 up.1 in
      let two : Some on.0 ≡ Some (grain * label + (cost hop + weight_of hops)) = sym on.1 ∙ t in
      let last : on.0 ≡ grain * label + (cost hop + weight_of hops) = cc in
      let quotient = b.1 / grain in
      let l = whole hop.to.0 up.0 up.1 in
      let exact : up.0 ≡ grain * label + cost hop = omega (arith, up.2, on.2, last) in
      let sum : grain * l.0 ≡ grain * (label + quotient) = omega (arith, l.1, exact, b.5) in
      let same : l.0 ≡ label + quotient = same_factor grain l.0 (label + quotient) fine sum in
      let cut : l.0 ≡ label_after grain label b.1 = omega (arith, same, l.2) in
      let head : labels b.0.to.0 ≡ Some (grain * l.0) = ap labels b.4 ∙ (up.1 ∙ ap Some l.1) in
      let listed : label_in items hop.to.0 ≡ Some l.0 = subst (λ (n : ℕ). label_in items n ≡ Some l.0) b.4 (given_listed node label b.1 l.0 b.0 at b.2 b.3 head cut) in
      attained_listed hops hop.to.0 l.0 end walk.2 listed (t ∙ ap Some (omega (arith, exact, l.1)))

  -- the head of a hop of a listed node is listed, with a label that isn't over
  head_listed : (node label weight : ℕ) (hop : Hop) → label_in items node ≡ Some label → Contains (hops_from network node) hop → hop.weight ≡ Some weight →
      (l : ℕ) × (label_in items hop.to.0 ≡ Some l) × (l ≤ label + weight / grain)
  head_listed node label weight hop at c w =
      let quotient = weight / grain in
      let weighs : (rounded_hop grain hop).weight ≡ Some (grain * quotient) = ap (rounded grain) w in
      let costs : cost (rounded_hop grain hop) ≡ grain * quotient = ap (λ (o : Option ℕ). unwrap_or o 0) weighs in
      let up = rises node (rounded_hop grain hop) (Contains-map (rounded_hop grain) (network.hops node) hop c) (ap is_some weighs) (grain * label) (told node label at) in
      let l = whole hop.to.0 up.0 up.1 in
      let near = subst (λ (o : Option ℕ). IsLabel roads (65534 * grain) landmark hop.to.0 o) up.1 (are hop.to.0) in
      let found : (l : ℕ) × (label_in items hop.to.0 ≡ Some l) = elim (cases_lt (65534 * grain) (weight_of near.hops)) [
        | inr short ↦ attained_listed near.hops landmark 0 hop.to.0 near.walk first_listed (up.1 ∙ ap Some (omega (arith, near.weight, short)))
        | inl long ↦
            let most : up.0 ≡ grain * 65534 = omega (arith, near.weight, long) in
            let is : l.0 ≡ 65534 = same_factor grain l.0 65534 fine (sym l.1 ∙ most) in
            let over : 65534 ≤ label + quotient = less_factor grain 65534 (label + quotient) fine (omega (arith, most, up.2, costs)) in
            (l.0, given_listed node label weight l.0 hop at c w (up.1 ∙ ap Some l.1) (omega (arith, is, over)))
      ] in
      let two : Some (grain * found.0) ≡ Some up.0 = sym (told hop.to.0 found.0 found.1) ∙ up.1 in
      let products : grain * found.0 ≡ up.0 = cc in
      (found.0, found.1, less_factor grain found.0 (label + quotient) fine (omega (arith, products, up.2, costs)))

  closed_at : (item : Item) → Contains items item → IsClosedAt network grain items item.node.0
  closed_at item c hop leaves =
      let at = contained_label items item c in
      not_open grain at.0 (label_in items item.node.0) hop.weight (label_in items hop.to.0) at.1 (λ w e. head_listed item.node.0 at.0 w hop at.1 leaves e)

  pub first_evidence : IsEvidence network grain landmark items
  first_evidence = record {
    some = omega arith;
    order = ((at_first, label_first), all_follow network grain landmark labels first [] rest next);
    closed = closed_at;
  }

  -- there is one label of each node, which evidence tells
  pub first_each : (node : ℕ) → labels node ≡ in_ms grain (label_in items node)
  first_each node = one_label roads (65534 * grain) landmark node (labels node) _ (are node) (evidence_tells network grain landmark items (λ n. in_ms grain (label_in items n)) first_evidence (λ n. refl) node)

-- so the listing is evidence, and tells the labels
pub listing_evidence : (network : Network) (grain landmark : ℕ) (labels : ℕ → Option ℕ) (items : List Item) → 1 ≤ grain → AreLabelsFrom (in_grains grain network) (65534 * grain) landmark labels → IsListing network grain landmark labels items → IsEvidence network grain landmark items
listing_evidence network grain landmark labels [] fine are l = absurd l
listing_evidence network grain landmark labels (first ∷ rest) fine are l = first_evidence network grain landmark labels fine are first rest l.0 l.1 l.2

pub listing_each : (network : Network) (grain landmark : ℕ) (labels : ℕ → Option ℕ) (items : List Item) → 1 ≤ grain → AreLabelsFrom (in_grains grain network) (65534 * grain) landmark labels → IsListing network grain landmark labels items →
    (node : ℕ) → labels node ≡ in_ms grain (label_in items node)
listing_each network grain landmark labels [] fine are l = absurd l
listing_each network grain landmark labels (first ∷ rest) fine are l = first_each network grain landmark labels fine are first rest l.0 l.1 l.2
