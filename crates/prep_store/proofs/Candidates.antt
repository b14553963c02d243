-- Which nodes may be listed next, as the list and the keys grow.
use Rattle.std.proofs.Common.{◌≡◌, ◌⊎◌, ◌<◌, ◌≤◌, ◌+◌, ◌*◌, ◌/◌, ℕ, Option, Some, None, IsSome, List, [], ◌∷◌, ◌++◌, length, Contains, refl, sym, subst, ap, ◌∙◌, inl, inr, arith}
use Rattle.std.specs.Prelude.{slice_set, is_none, is_some, false}
use Rattle.std.proofs.Math.Nat.{mul-div_cancel_left}
use Rattle.std.proofs.lemmas.List.{get_or-set_other, get_or-set_same, length-set}
use Rattle.gh_base.specs.declared.edges.Hop.{Hop}
use Rattle.gh_base.specs.Networks.{Network, LeadsToNodes}
use Rattle.walk_rules.specs.Walks.{hops_from}
use Rattle.walk_rules.specs.Starts.{count_below}
use Rattle.walk_rules.proofs.Counting.{count_below-one_more}
use Rattle.walk_rules.proofs.Options.{some_or_none, some_of, Contains-cons_cases}
use Rattle.search_queue.specs.Keys.{key_at}
use Rattle.alt_search.proofs.Listed.{emptied}
use Rattle.prep_store.specs.declared.item.Item.{Item}
use Rattle.prep_store.specs.Evidence.{label_in, label_after}
use Rattle.prep_store.specs.Writing.{IsCandidate, IsNext}
use Rattle.prep_store.specs.Ordering.{key_of, is_new, Gives, IsOpen, IsOpenBut, Enters, Passes, Offers}
use Rattle.prep_store.proofs.Lookups.{same_or_not, no_some, label_push_cases, label_push_front, label_push_other, label_push_new}

pub item_one : (a b : Item) → a.node.0 ≡ b.node.0 → a.label ≡ b.label → a ≡ b
item_one a b n l =
    ap (λ (k : ℕ). record { node = record { 0 = k }; label = a.label }) n ∙ ap (λ (k : ℕ). record { node = record { 0 = b.node.0 }; label = k }) l

pub same_factor : (n a b : ℕ) → 1 ≤ n → n * a ≡ n * b → a ≡ b
same_factor n a b pos e =
    let p : 0 < n = omega arith in
    sym (mul-div_cancel_left a p) ∙ (ap (λ (x : ℕ). x / n) e ∙ mul-div_cancel_left b p)

-- the label of an item is that of its node
pub told_one : (grain : ℕ) (labels : ℕ → Option ℕ) (a b : Item) → 1 ≤ grain → labels a.node.0 ≡ Some (grain * a.label) → labels b.node.0 ≡ Some (grain * b.label) → a.node.0 ≡ b.node.0 → a ≡ b
told_one grain labels a b pos la lb n =
    let e : Some (grain * a.label) ≡ Some (grain * b.label) = sym la ∙ (ap labels n ∙ lb) in
    let products : grain * a.label ≡ grain * b.label = cc in
    item_one a b n (same_factor grain a.label b.label pos products)

-- a candidate's node is one of the nodes, and its label is not over the greatest
pub candidate_fits : (network : Network) (grain : ℕ) (labels : ℕ → Option ℕ) (listed : List Item) (item : Item) → LeadsToNodes network → IsCandidate network grain labels listed item → (item.node.0 < network.nodes) × (item.label ≤ 65534)
candidate_fits network grain labels listed item leads c =
    let r = c.reached in
    (omega (arith, leads r.node r.hop r.leaves, r.leads), omega (arith, r.gives))

-- a candidate beside one item more was one before, or a hop from that item gives it its label
pub pushed_candidate : (network : Network) (grain : ℕ) (labels : ℕ → Option ℕ) (listed : List Item) (last item : Item) → IsCandidate network grain labels (listed ++ last ∷ []) item →
    (last.node.0 ≡ item.node.0 → ⊥) × (IsCandidate network grain labels listed item ⊎ ((hop : Hop) × Contains (hops_from network last.node.0) hop × Gives grain last.label hop item))
pushed_candidate network grain labels listed last item c =
    let r = c.reached in
    let was_new : label_in listed item.node.0 ≡ None = elim (some_or_none (label_in listed item.node.0)) [
      | inr n ↦ n
      | inl s ↦ absurd (no_some (sym c.new ∙ label_push_front listed last item.node.0 s.0 s.1))
    ] in
    let other : last.node.0 ≡ item.node.0 → ⊥ = λ e. elim (same_or_not last.node.0 item.node.0) [
      | inr n ↦ n e
      | inl s ↦ no_some (sym (subst (λ (k : ℕ). label_in (listed ++ last ∷ []) k ≡ None) (sym s) c.new) ∙ label_push_new listed last (subst (λ (k : ℕ). label_in listed k ≡ None) (sym s) was_new))
    ] in (
      other,
      elim (label_push_cases listed last r.node r.label r.label_is) [
        | inl l ↦ inl (record {
          label = c.label;
          new = was_new;
          reached = record { node = r.node; label = r.label; label_is = l; hop = r.hop; leaves = r.leaves; leads = r.leads; weight = r.weight; weighs = r.weighs; gives = r.gives };
        })
        | inr e ↦ inr (
          r.hop,
          subst (λ (k : ℕ). Contains (hops_from network k) r.hop) (sym e.0) r.leaves,
          record { leads = r.leads; weight = r.weight; weighs = r.weighs; gives = r.gives ∙ ap (λ (k : ℕ). label_after grain k r.weight) (sym e.1) },
        )
      ],
    )

-- a candidate of another node stays one
pub kept_candidate : (network : Network) (grain : ℕ) (labels : ℕ → Option ℕ) (listed : List Item) (last item : Item) → (last.node.0 ≡ item.node.0 → ⊥) → IsCandidate network grain labels listed item → IsCandidate network grain labels (listed ++ last ∷ []) item
kept_candidate network grain labels listed last item n c =
    let r = c.reached in
    record {
      label = c.label;
      new = label_push_other listed last item.node.0 n ∙ c.new;
      reached = record { node = r.node; label = r.label; label_is = label_push_front listed last r.node r.label r.label_is; hop = r.hop; leaves = r.leaves; leads = r.leads; weight = r.weight; weighs = r.weighs; gives = r.gives };
    }

-- the one with the least key is the next
pub least_next : (network : Network) (grain : ℕ) (labels : ℕ → Option ℕ) (listed : List Item) (keys : List (Option ℕ)) (item : Item) → LeadsToNodes network → network.nodes < 4294967296 →
    IsOpen network grain labels listed keys → IsCandidate network grain labels listed item → ((node key : ℕ) → key_at keys node ≡ Some key → key_of item ≤ key) → IsNext network grain labels listed item
least_next network grain labels listed keys item leads few o c least = record {
  candidate = c;
  least = λ other d.
      let le = least other.node.0 (key_of other) (o.all other d) in
      let a = candidate_fits network grain labels listed item leads c in
      let b = candidate_fits network grain labels listed other leads d in
      by_key item.label item.node.0 other.label other.node.0 le (omega (arith, a.0)) (omega (arith, b.0));
}
  where
    by_key : (l n m k : ℕ) → l * 4294967296 + n ≤ m * 4294967296 + k → n < 4294967296 → k < 4294967296 → (l < m) ⊎ ((l ≡ m) × (n ≤ k))
    by_key l n m k le a b = elim (same_or_not l m) [
      | inl e ↦ inr (e, omega arith)
      | inr d ↦ inl (omega arith)
    ]

-- it leaves the keys, and is listed: those that are left to bring in are the heads of its hops
pub listed_next : (network : Network) (grain : ℕ) (labels : ℕ → Option ℕ) (listed : List Item) (keys : List (Option ℕ)) (item : Item) →
    IsOpen network grain labels listed keys → IsOpenBut network grain labels (listed ++ item ∷ []) item.label (hops_from network item.node.0) (slice_set keys item.node.0 None)
listed_next network grain labels listed keys item o = record {
  each = λ node key e. elim (same_or_not item.node.0 node) [
    | inl s ↦ absurd (no_some (sym (emptied keys item.node.0) ∙ subst (λ (k : ℕ). key_at (slice_set keys item.node.0 None) k ≡ Some key) (sym s) e))
    | inr n ↦
        let q = o.each node key (sym (get_or-set_other keys item.node.0 node None None (λ s. n (sym s))) ∙ e) in
        (q.0, kept_candidate network grain labels listed item q.0 (λ s. n (s ∙ q.2)) q.1, q.2, q.3)
  ];
  all = λ other c.
      let p = pushed_candidate network grain labels listed item other c in
      elim p.1 [
        | inl was ↦ inl (get_or-set_other keys item.node.0 other.node.0 None None (λ s. p.0 (sym s)) ∙ o.all other was)
        | inr hop ↦ inr hop
      ];
}

-- before anything is listed nothing is a candidate
pub none_open : (network : Network) (grain : ℕ) (labels : ℕ → Option ℕ) (keys : List (Option ℕ)) → ((node : ℕ) → key_at keys node ≡ None) → IsOpen network grain labels [] keys
none_open network grain labels keys none = record {
  each = λ node key e. absurd (no_some (sym (none node) ∙ e));
  all = λ item c. absurd (no_some c.reached.label_is);
}

-- how many nodes aren't listed, with one more item
pub less_new : (listed : List Item) (item : Item) (nodes : ℕ) → item.node.0 < nodes → label_in listed item.node.0 ≡ None → count_below (is_new listed) nodes ≡ count_below (is_new (listed ++ item ∷ [])) nodes + 1
less_new listed item nodes within new =
    count_below-one_more (is_new (listed ++ item ∷ [])) (is_new listed) nodes item.node.0 within
    (ap is_none (label_push_new listed item new)) (ap is_none new)
    (λ i n. ap is_none (label_push_other listed item i (λ s. n (sym s))))

-- a hop is the first, or one of those that are left
left_hop : {P : Type 0} (grain tail : ℕ) (hop : Hop) (left : List Hop) (other : Item) → ((h : Hop) × Contains (hop ∷ left) h × Gives grain tail h other) → (Gives grain tail hop other → P) →
    (((h : Hop) × Contains left h × Gives grain tail h other) → P) → P
left_hop {P} grain tail hop left other h now later = elim (Contains-cons_cases hop left h.0 h.1) [
  | inl e ↦ now (subst (λ (x : Hop). Gives grain tail x other) (sym e) h.2)
  | inr k ↦ later (h.0, k, h.2)
]

-- one hop less is left
module _ (network : Network) (grain : ℕ) (labels : ℕ → Option ℕ) (listed : List Item) (last : Item) (fine : 1 ≤ grain) (at : label_in listed last.node.0 ≡ Some last.label) where
  entered : (hop : Hop) (left : List Hop) (keys keys' : List (Option ℕ)) → Contains (hops_from network last.node.0) hop → hop.to.0 < length keys →
      IsOpenBut network grain labels listed last.label (hop ∷ left) keys → Enters grain labels listed last.label hop keys keys' → IsOpenBut network grain labels listed last.label left keys'
  entered hop left keys keys' leaves within o e =
      let item = e.item in
      let long : item.node.0 < length keys = omega (arith, e.gives.leads) in
      let candidate : IsCandidate network grain labels listed item = record {
        label = e.label;
        new = e.new;
        reached = record { node = last.node.0; label = last.label; label_is = at; hop = hop; leaves = leaves; leads = e.gives.leads; weight = e.gives.weight; weighs = e.gives.weighs; gives = e.gives.gives };
      } in
      let own : key_at keys' item.node.0 ≡ Some (key_of item) = ap (λ (ks : List (Option ℕ)). key_at ks item.node.0) e.keys_are ∙ get_or-set_same keys item.node.0 (Some (key_of item)) None long in
      let others : (node : ℕ) → (item.node.0 ≡ node → ⊥) → key_at keys' node ≡ key_at keys node =
      λ node n. ap (λ (ks : List (Option ℕ)). key_at ks node) e.keys_are ∙ get_or-set_other keys item.node.0 node (Some (key_of item)) None (λ s. n (sym s)) in
      record {
        each = λ node key k. elim (same_or_not item.node.0 node) [
          | inl s ↦
              let same : Some (key_of item) ≡ Some key = sym own ∙ (ap (key_at keys') s ∙ k) in
              (item, candidate, s, cc)
          | inr n ↦ o.each node key (sym (others node n) ∙ k)
        ];
        all = λ other c. elim (same_or_not item.node.0 other.node.0) [
          | inl s ↦ inl (subst (λ (i : Item). key_at keys' i.node.0 ≡ Some (key_of i)) (told_one grain labels item other fine e.label c.label s) own)
          | inr n ↦ elim (o.all other c) [
            | inl k ↦ inl (others other.node.0 n ∙ k)
            | inr h ↦ left_hop grain last.label hop left other h (λ g. inl (absurd (n (sym e.gives.leads ∙ g.leads)))) (λ r. inr r)
          ]
        ];
      }

  passed : (hop : Hop) (left : List Hop) (keys keys' : List (Option ℕ)) →
      IsOpenBut network grain labels listed last.label (hop ∷ left) keys → Passes grain labels listed last.label hop keys keys' → IsOpenBut network grain labels listed last.label left keys'
  passed hop left keys keys' o p = subst (IsOpenBut network grain labels listed last.label left) (sym p.same) (record {
    each = o.each;
    all = λ other c. elim (o.all other c) [
      | inl k ↦ inl k
      | inr h ↦ left_hop grain last.label hop left other h (λ g. inl (known other c (p.no_use other g c.label c.new))) (λ r. inr r)
    ];
  })
    where
      known : (other : Item) → IsCandidate network grain labels listed other → IsSome (key_at keys other.node.0) → key_at keys other.node.0 ≡ Some (key_of other)
      known other c s =
          let k = some_of (key_at keys other.node.0) s in
          let q = o.each other.node.0 k.0 k.1 in
          k.1 ∙ ap Some (q.3 ∙ ap key_of (told_one grain labels q.0 other fine q.1.label c.label q.2))

  pub offered : (hop : Hop) (left : List Hop) (keys keys' : List (Option ℕ)) → Contains (hops_from network last.node.0) hop → hop.to.0 < length keys →
      IsOpenBut network grain labels listed last.label (hop ∷ left) keys → Offers grain labels listed last.label hop keys keys' → IsOpenBut network grain labels listed last.label left keys'
  offered hop left keys keys' leaves within o (inl e) = entered hop left keys keys' leaves within o e
  offered hop left keys keys' leaves within o (inr p) = passed hop left keys keys' o p

-- no hop is left
pub all_offered : (network : Network) (grain : ℕ) (labels : ℕ → Option ℕ) (listed : List Item) (tail : ℕ) (keys : List (Option ℕ)) → IsOpenBut network grain labels listed tail [] keys → IsOpen network grain labels listed keys
all_offered network grain labels listed tail keys o = record {
  each = o.each;
  all = λ item c. elim (o.all item c) [ inl k ↦ k | inr h ↦ absurd (omega (arith, h.1.1)) ];
}

-- what an offer sees
pub no_some_test : {A : Type 0} (o : Option A) → is_some o ≡ false → o ≡ None
no_some_test None e = refl
no_some_test (Some x) e = absurd (cc)

-- the keys stay as many
pub offered_long : (grain : ℕ) (labels : ℕ → Option ℕ) (listed : List Item) (tail : ℕ) (hop : Hop) (keys keys' : List (Option ℕ)) → Offers grain labels listed tail hop keys keys' → length keys' ≡ length keys
offered_long grain labels listed tail hop keys keys' (inl e) = ap (λ (ks : List (Option ℕ)). length ks) e.keys_are ∙ length-set keys e.item.node.0 (Some (key_of e.item))
offered_long grain labels listed tail hop keys keys' (inr p) = ap (λ (ks : List (Option ℕ)). length ks) p.same
