-- Labels by the least weights that are told are evidence.
use Rattle.std.proofs.Common.{◌≡◌, ℕ, ◌+◌, ◌-◌, ◌<◌, ◌≤◌, false, cond, nat_lt, unwrap_or, Option, Some, None, List, [], ◌∷◌, ◌++◌, IsSome, is_some, Contains, refl, ap, ◌∙◌, inl, inr, arith}
use Rattle.std.proofs.lemmas.Bool.{cases_lt, lt-ltb, le-ltb}
use Rattle.gh_base.specs.declared.edges.Hop.{Hop}
use Rattle.gh_base.specs.Networks.{Network, LeadsToNodes}
use Rattle.walk_rules.specs.Walks.{hops_from, IsWalk, weight_of, cost, IsLeastWeight}
use Rattle.walk_rules.specs.Potentials.{IsFeasible}
use Rattle.walk_rules.specs.Evidence.{is_over, is_violated, IsEvidence, IsLesser, IsEvidenceLabel, IsShownLeast, TellsLeast, label_by}
use Rattle.walk_rules.proofs.Options.{some_or_none}
use Rattle.walk_rules.proofs.Walking.{walk_push, feasible_below}

module _ {network : Network} {bound : ℕ → Option ℕ} {start target weight : ℕ} {told : ℕ → Option ℕ} (t : TellsLeast network bound start target told) (l : IsLeastWeight network start target weight) where
  -- a walk to the target weighs at least the weight
  no_less : (others : List Hop) → IsWalk network start others target → weight ≤ weight_of others
  no_less others walk = omega (arith, l.is_least.least others walk, l.weight_is)

  lesser : (node left : ℕ) → bound node ≡ Some left → (o : Option ℕ) → told node ≡ o → IsLesser network start node (weight - left) (label_by (Some left) o weight)
  lesser node left b None e = record {
    within = omega arith;
    below = λ others walk. let r = t.rest node left others e b walk in omega (arith, r.2, no_less r.0 r.1);
    met = inl refl;
  }
  lesser node left b (Some w) e =
      let at = t.least node w e in
      record {
        within = omega arith;
        below = λ others walk. omega (arith, at.is_least.least others walk, at.weight_is);
        met = elim (cases_lt w (weight - left)) [
          | inl less ↦ inr (at.hops, at.is_least.walk, omega (arith, at.weight_is))
          | inr ge ↦ inl (omega arith)
        ];
      }

  pub right_label : (node : ℕ) (label : Option ℕ) → label ≡ Some (label_by (bound node) (told node) weight) → IsEvidenceLabel network bound start weight node label
  right_label node label e = elim (some_or_none (bound node)) [
    | inl b ↦ rw b.1 (label_by (Some b.0) (told node) weight, rw b.1 at e, lesser node b.0 b.1 (told node) refl)
    | inr n ↦ rw n (rw n at e)
  ]

-- a label that isn't over another by more than a weight
not_over : (x weight y : ℕ) → y ≤ x + weight → nat_lt (x + weight) y ≡ false
not_over x weight y le = le-ltb (x + weight) y le

module _ (network : Network) (bound : ℕ → Option ℕ) (start target weight : ℕ) (label : ℕ → Option ℕ) (leads : LeadsToNodes network) (f : IsFeasible network bound target) (l : IsLeastWeight network start target weight) (right : (node : ℕ) → node < network.nodes → IsEvidenceLabel network bound start weight node (label node)) where
  -- the label of a node with a bound, and that of one with none
  with_bound : (node left : ℕ) → node < network.nodes → bound node ≡ Some left → (y : ℕ) × (label node ≡ Some y) × IsLesser network start node (weight - left) y
  with_bound node left n b = rw b at (right node n)

  with_none : (node : ℕ) → node < network.nodes → bound node ≡ None → label node ≡ Some 0
  with_none node n b = rw b at (right node n)

  start_label : start < network.nodes → label start ≡ Some 0
  start_label s =
      let b = feasible_below f l.hops start l.is_least.walk in
      let y = with_bound start b.0 s b.1 in
      y.1 ∙ ap Some (omega (arith, y.2.below [] refl))

  target_label : target < network.nodes → label target ≡ Some weight
  target_label s =
      let y = with_bound target 0 s f.at_target in
      y.1 ∙ ap Some (elim y.2.met [
        | inl e ↦ omega arith
        | inr w ↦ omega (arith, y.2.within, w.2, l.is_least.least w.0 w.1, l.weight_is)
      ])

  -- the label of a hop's head is over the tail's by no more than the weight
  over_hop : (node : ℕ) (hop : Hop) (w : ℕ) → node < network.nodes → Contains (hops_from network node) hop → hop.weight ≡ Some w → is_over (label node) w (label hop.to.0) ≡ false
  over_hop node hop w n c e =
      let head : hop.to.0 < network.nodes = leads node hop c in
      let weighs : IsSome hop.weight = ap is_some e in
      let costs : cost hop ≡ w = ap (λ o. unwrap_or o 0) e in
      elim (some_or_none (bound hop.to.0)) [
        | inr none ↦
            let y = with_none hop.to.0 head none in
            elim (some_or_none (bound node)) [
              | inl b ↦ let x = with_bound node b.0 n b.1 in rw (x.1, y) (not_over x.0 w 0 (omega arith))
              | inr b ↦ let x = with_none node n b in rw (x, y) (not_over 0 w 0 (omega arith))
            ]
        | inl some ↦
            let y = with_bound hop.to.0 some.0 head some.1 in
            let b = f.along node hop c weighs some.0 some.1 in
            let x = with_bound node b.0 n b.1 in
            rw (x.1, y.1) (not_over x.0 w y.0 (elim x.2.met [
              | inl at_limit ↦ omega (arith, y.2.within, b.2)
              | inr walk ↦
                  let on = walk_push network walk.0 hop start node hop.to.0 walk.1 c weighs refl in
                  omega (arith, y.2.below (walk.0 ++ hop ∷ []) on.0, on.1, walk.2)
            ]))
      ]

  pub labels_are_evidence : start < network.nodes → target < network.nodes → ((node : ℕ) → network.nodes ≤ node → label node ≡ None) → IsEvidence network label start target weight
  labels_are_evidence s t past = record {
    at_start = start_label s;
    at_target = target_label t;
    along = λ node hop c. elim (some_or_none hop.weight) [
      | inr barred ↦ ap (λ o. is_violated (label node) o (label hop.to.0)) barred
      | inl w ↦ elim (cases_lt node network.nodes) [
        | inl n ↦ ap (λ o. is_violated (label node) o (label hop.to.0)) w.1 ∙ over_hop node hop w.0 n c w.1
        | inr g ↦ ap (λ o. is_violated (label node) o (label hop.to.0)) w.1 ∙ ap (λ o. is_over o w.0 (label hop.to.0)) (past node g)
      ]
    ];
  }

-- the labels by what is told, of the nodes alone
abbrev told_labels : Network → (ℕ → Option ℕ) → (ℕ → Option ℕ) → ℕ → ℕ → Option ℕ
told_labels network bound told weight node = cond {A = Option ℕ} (nat_lt node network.nodes) (Some (label_by (bound node) (told node) weight)) None

module _ {network : Network} {bound told : ℕ → Option ℕ} {start target weight : ℕ} (leads : LeadsToNodes network) (s : start < network.nodes) (t : target < network.nodes) (f : IsFeasible network bound target) (tells : TellsLeast network bound start target told) (l : IsLeastWeight network start target weight) where
  is_right : (node : ℕ) → node < network.nodes → IsEvidenceLabel network bound start weight node (told_labels network bound told weight node)
  is_right node n = right_label tells l node (told_labels network bound told weight node) (ap (λ b. cond {A = Option ℕ} b (Some (label_by (bound node) (told node) weight)) None) (lt-ltb node network.nodes n))

  pub told_shows_least : IsShownLeast network bound start target weight
  told_shows_least = record {
    label = told_labels network bound told weight;
    each = is_right;
    evidence = labels_are_evidence network bound start target weight (told_labels network bound told weight) leads f l is_right s t
        (λ node far. ap (λ b. cond {A = Option ℕ} b (Some (label_by (bound node) (told node) weight)) None) (le-ltb node network.nodes far));
  }
