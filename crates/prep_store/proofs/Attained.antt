-- Evidence tells the labels: along the list walks attain them, and since no hop is open no walk weighs less.
use Rattle.std.specs.Prelude.{length}
use Rattle.std.specs.Option.{option_map}
use Rattle.std.proofs.Common.{◌≡◌, ℕ, ◌+◌, ◌*◌, ◌/◌, ◌<◌, ◌≤◌, min, false, Option, Some, None, is_some, unwrap_or, List, [], ◌∷◌, ◌++◌, IsSome, Contains, refl, sym, subst, ap, ◌∙◌, inl, inr, append_assoc, arith}
use Rattle.std.proofs.Math.Nat.{mul-le-mul_left}
use Rattle.std.proofs.lemmas.Bool.{cases_lt}
use Rattle.std.proofs.lemmas.Bool.Decides.{nat_tests}
use Rattle.std.proofs.lemmas.List.{append-nil}
use Rattle.gh_base.specs.declared.edges.Hop.{Hop}
use Rattle.gh_base.specs.Networks.{Network}
use Rattle.walk_rules.specs.Walks.{hops_from, IsWalk, weight_of, cost}
use Rattle.walk_rules.specs.Potentials.{RisesAlong}
use Rattle.walk_rules.specs.Distances.{in_grains, rounded, rounded_hop, IsLabel, AreLabelsFrom}
use Rattle.walk_rules.specs.Evidence.{is_over, is_violated}
use Rattle.walk_rules.proofs.Walking.{walk_push, rises_along_walk}
use Rattle.walk_rules.proofs.Options.{some_or_none}
use Rattle.label_spread.specs.Cutting.{Contains-map_from}
use Rattle.landmark_prep.specs.Packing.{in_ms}
use Rattle.landmark_prep.proofs.Graining.{Contains-map}
use Rattle.prep_store.specs.declared.item.Item.{Item}
use Rattle.prep_store.specs.Evidence.{label_in, IsReached, MayFollow, MayAllFollow, is_open, IsEvidence}
use Rattle.prep_store.proofs.Lookups.{label_here, label_push_cases, label_found}

module _ (network : Network) (grain landmark : ℕ) where
  -- a walk in whole grains weighs as many as the label says, or more where that is cut
  pub record IsAttained (node label : ℕ) : Type 0 where
    pub hops : List Hop
    pub walk : IsWalk (in_grains grain network) landmark hops node
    pub grains : ℕ
    pub weight : weight_of hops ≡ grain * grains
    pub label_is : label ≡ min grains 65534

  abbrev AreAttained : List Item → Type 0
  AreAttained listed = (node label : ℕ) → label_in listed node ≡ Some label → IsAttained node label

  reached_attained : (listed : List Item) (item : Item) → AreAttained listed → IsReached network grain listed item → IsAttained item.node.0 item.label
  reached_attained listed item all r =
      let to = all r.node r.label r.label_is in
      let quotient = r.weight / grain in
      let weighs : (rounded_hop grain r.hop).weight ≡ Some (grain * quotient) = ap (rounded grain) r.weighs in
      let on = walk_push (in_grains grain network) to.hops (rounded_hop grain r.hop) landmark r.node item.node.0 to.walk
      (Contains-map (rounded_hop grain) (network.hops r.node) r.hop r.leaves) (ap is_some weighs) r.leads in
      let costs : cost (rounded_hop grain r.hop) ≡ grain * quotient = ap (λ o. unwrap_or o 0) weighs in
      record {
        hops = to.hops ++ rounded_hop grain r.hop ∷ [];
        walk = on.0;
        grains = to.grains + quotient;
        weight = on.1 ∙ omega (arith, to.weight, costs);
        label_is = r.gives ∙ omega (arith, to.label_is);
      }

  follow_attained : (before : List Item) (item : Item) → AreAttained before → MayFollow network grain landmark before item → IsAttained item.node.0 item.label
  follow_attained [] item all f = record { hops = []; walk = sym f.0; grains = 0; weight = omega arith; label_is = omega (arith, f.1) }
  follow_attained (x ∷ before) item all f = reached_attained (x ∷ before) item all f.1

  push_attained : (before : List Item) (item : Item) → AreAttained before → MayFollow network grain landmark before item → AreAttained (before ++ item ∷ [])
  push_attained before item all f node label e = elim (label_push_cases before item node label e) [
    | inl l ↦ all node label l
    | inr r ↦ subst (λ (n : ℕ). IsAttained n label) r.0 (subst (λ (l : ℕ). IsAttained item.node.0 l) r.1 (follow_attained before item all f))
  ]

  all_attained : (before items : List Item) → AreAttained before → MayAllFollow network grain landmark before items → AreAttained (before ++ items)
  all_attained before [] all f = subst AreAttained (sym (append-nil before)) all
  all_attained before (item ∷ items) all f =
      subst AreAttained (append_assoc before (item ∷ []) items)
      (all_attained (before ++ item ∷ []) items (push_attained before item all f.0) f.1)

  pub listed_attained : (items : List Item) → MayAllFollow network grain landmark [] items → AreAttained items
  listed_attained items f = all_attained [] items (λ node label e. absurd (cc)) f

-- a hop that isn't open
pub not_over : (x weight : ℕ) (head : Option ℕ) → is_over (Some x) weight head ≡ false → (y : ℕ) × (head ≡ Some y) × (y ≤ x + weight)
not_over x weight None e = absurd (cc)
not_over x weight (Some y) e = (y, refl, grind (arith, nat_tests))

in_ms_of : (grain : ℕ) (label : Option ℕ) (y : ℕ) → in_ms grain label ≡ Some y → (k : ℕ) × (label ≡ Some k) × (y ≡ grain * k)
in_ms_of grain None y e = absurd (cc)
in_ms_of grain (Some k) y e = (k, refl, cc)

pub scaled_min : (grain grains label weight : ℕ) → weight ≡ grain * grains → label ≡ min grains 65534 → grain * label ≡ min weight (65534 * grain)
scaled_min grain grains label weight w l = elim (cases_lt grains 65534) [
  | inl less ↦
      let e : label ≡ grains = omega arith in
      let le : grain * grains ≤ grain * 65534 = mul-le-mul_left grain (omega arith) in
      rw e (omega arith)
  | inr ge ↦
      let e : label ≡ 65534 = omega arith in
      let le : grain * 65534 ≤ grain * grains = mul-le-mul_left grain (omega arith) in
      rw e (omega arith)
]

module _ (network : Network) (grain landmark : ℕ) (items : List Item) (labels : ℕ → Option ℕ) (evidence : IsEvidence network grain landmark items) (told : (node : ℕ) → labels node ≡ in_ms grain (label_in items node)) where
  -- no label of a head is over its tail's and the weight in grains
  rises : RisesAlong (in_grains grain network) labels
  rises node hop contains some y e =
      let from = Contains-map_from (rounded_hop grain) (network.hops node) hop contains in
      let label = in_ms_of grain (label_in items node) y (sym (told node) ∙ e) in
      let item = label_found items node label.0 label.1 in
      let base = from.0 in
      let is_some_base : IsSome (rounded grain base.weight) = subst (λ (h : Hop). IsSome h.weight) (sym from.2) some in
      elim (some_or_none base.weight) [
        | inr none ↦ absurd (let bad : IsSome (rounded grain None) = subst (λ (o : Option ℕ). IsSome (rounded grain o)) none is_some_base in cc)
        | inl weight ↦
            let quotient = weight.0 / grain in
            let shut : is_open grain items node base ≡ false =
            subst (λ (n : ℕ). is_open grain items n base ≡ false) item.2
            (evidence.closed item.0 item.1 base (subst (λ (n : ℕ). Contains (hops_from network n) base) (sym item.2) from.1)) in
            let over : is_over (Some label.0) quotient (label_in items base.to.0) ≡ false =
            sym (ap (λ (o : Option ℕ). is_violated o (option_map (λ w. w / grain) base.weight) (label_in items base.to.0)) label.1
            ∙ ap (λ (o : Option ℕ). is_violated (Some label.0) (option_map (λ w. w / grain) o) (label_in items base.to.0)) weight.1) ∙ shut in
            let head = not_over label.0 quotient (label_in items base.to.0) over in
            let costs : cost hop ≡ grain * quotient = sym (ap cost from.2) ∙ ap (λ (o : Option ℕ). unwrap_or (rounded grain o) 0) weight.1 in
            let le : grain * head.0 ≤ grain * (label.0 + quotient) = mul-le-mul_left {m = head.0} {n = label.0 + quotient} grain head.2 in
            (grain * head.0, ap (λ (h : Hop). labels h.to.0) (sym from.2) ∙ told base.to.0 ∙ ap (in_ms grain) head.1, omega (arith, le, costs, label.2))
      ]

  at_landmark : labels landmark ≡ Some 0
  at_landmark = told landmark ∙ ap (in_ms grain) (first items evidence.some evidence.order) ∙ ap Some (omega arith)
    where
      first : (xs : List Item) → 0 < length xs → MayAllFollow network grain landmark [] xs → label_in xs landmark ≡ Some 0
      first [] s f = absurd (omega arith)
      first (x ∷ xs) s f = label_here x xs landmark f.0.0 ∙ ap Some f.0.1

  no_less : (node : ℕ) (hops : List Hop) → IsWalk (in_grains grain network) landmark hops node → (x : ℕ) × (labels node ≡ Some x) × (x ≤ weight_of hops)
  no_less node hops walk =
      let r = rises_along_walk (in_grains grain network) labels rises hops landmark node walk 0 at_landmark in
      (r.0, r.1, omega (arith, r.2))

  by_label : (node : ℕ) (label : Option ℕ) → label_in items node ≡ label → IsLabel (in_grains grain network) (65534 * grain) landmark node (in_ms grain label)
  by_label node None e = λ hops walk.
      let r = no_less node hops walk in
      let none : labels node ≡ None = told node ∙ ap (in_ms grain) e in
      absurd (cc)
  by_label node (Some label) e =
      let to = listed_attained network grain landmark items evidence.order node label e in
      let is : labels node ≡ Some (grain * label) = told node ∙ ap (in_ms grain) e in
      record {
        hops = to.hops;
        walk = to.walk;
        weight = scaled_min grain to.grains label (weight_of to.hops) to.weight to.label_is;
        least = λ others walk.
            let r = no_less node others walk in
            let same : r.0 ≡ grain * label = cc in
            omega (arith, r.2, same);
      }

  pub evidence_tells : AreLabelsFrom (in_grains grain network) (65534 * grain) landmark labels
  evidence_tells node = subst (λ (o : Option ℕ). IsLabel (in_grains grain network) (65534 * grain) landmark node o) (sym (told node)) (by_label node (label_in items node) refl)
