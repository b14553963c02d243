-- A hop of a settled node is taken into account.
use Rattle.std.proofs.Common.{◌≡◌, ℕ, ◌+◌, ◌*◌, ◌<◌, ◌≤◌, ◌⊎◌, Option, Some, None, List, ◌∷◌, length, IsSome, is_some, Contains, sym, subst, ap, ◌∙◌, inl, inr, arith}
use Rattle.std.proofs.lemmas.List.{get_or-set_other, get_or-set_same, length-set}
use Rattle.std.proofs.lemmas.Bool.{cases_eq}
use Rattle.gh_base.specs.declared.edges.Hop.{Hop}
use Rattle.gh_base.specs.declared.edges.NodeId.{NodeId}
use Rattle.alt_search.specs.declared.reach.Reach.{Reach}
use Rattle.alt_search.specs.declared.reach.Step.{Step}
use Rattle.gh_base.specs.Networks.{Network}
use Rattle.walk_rules.specs.Walks.{hops_from, cost}
use Rattle.search_queue.specs.Keys.{key_at}
use Rattle.alt_search.specs.Progress.{reach_at, IsSettled, IsRelaxed, Extends}
use Rattle.two_way_search.specs.Sides.{FallsTwice, IsTree, IsOrdered, Improves, Passes, Relaxes}
use Rattle.walk_rules.proofs.Options.{some_or_none, some_of, Contains-cons_cases}

-- the new walk to the head
abbrev extended : NodeId → Reach → Hop → Reach
extended tail from hop = record { weight = from.weight + cost hop; depth = from.depth + 1; last = Some (record { tail = tail; hop = hop }) }

module _ {network : Network} {bound : ℕ → Option ℕ} {start settled : ℕ} {tail : NodeId} {from : Reach} {hop : Hop} {reached : List (Option Reach)} {keys : List (Option ℕ)} {reached' : List (Option Reach)} {keys' : List (Option ℕ)} (t : IsTree network bound start settled reached keys) (from_settled : IsSettled reached keys tail.0 from) (contains : Contains (hops_from network tail.0) hop) (in_reached : hop.to.0 < length reached) (in_keys : hop.to.0 < length keys) (i : Improves bound tail from hop reached keys reached' keys') where
  -- a walk that was known to the head is to an open node, and no lighter
  better : (reach : Reach) → reach_at reached hop.to.0 ≡ Some reach → IsSome (key_at keys hop.to.0) × (from.weight + cost hop ≤ reach.weight)
  better reach r = elim (some_or_none (key_at keys hop.to.0)) [
    | inl k ↦
        let q = t.queued hop.to.0 k.0 k.1 in
        let same : q.0 ≡ reach = let a = q.2 in cc in
        let weighs = ap (λ (x : Reach). x.weight) same in
        let same_bound : q.1 ≡ i.b = let a = q.3 in let c = i.bound_is in cc in
        (ap is_some k.1, omega (arith, i.better k.0 k.1, q.4))
    | inr n ↦ absurd (let e = i.fresh n in cc)
  ]

  reach_here : reach_at reached' hop.to.0 ≡ Some (extended tail from hop)
  reach_here = ap (λ xs. reach_at xs hop.to.0) i.reached_is ∙ get_or-set_same reached hop.to.0 _ None in_reached

  key_here : key_at keys' hop.to.0 ≡ Some (2 * (from.weight + cost hop) + i.b)
  key_here = ap (λ xs. key_at xs hop.to.0) i.keys_are ∙ get_or-set_same keys hop.to.0 _ None in_keys

  reach_elsewhere : (v : ℕ) → (v ≡ hop.to.0 → ⊥) → reach_at reached' v ≡ reach_at reached v
  reach_elsewhere v ne = ap (λ xs. reach_at xs v) i.reached_is ∙ get_or-set_other reached hop.to.0 v _ None ne

  key_elsewhere : (v : ℕ) → (v ≡ hop.to.0 → ⊥) → key_at keys' v ≡ key_at keys v
  key_elsewhere v ne = ap (λ xs. key_at xs v) i.keys_are ∙ get_or-set_other keys hop.to.0 v _ None ne

  -- the head isn't settled, before and after
  not_settled : (v : ℕ) (reach : Reach) → IsSettled reached keys v reach → v ≡ hop.to.0 → ⊥
  not_settled v reach s e =
      let b = better reach (ap (reach_at reached) (sym e) ∙ s.reach_is) in
      let k : key_at keys hop.to.0 ≡ None = ap (key_at keys) (sym e) ∙ s.no_key in
      let n = b.0 in
      let m = ap is_some k in
      cc

  still_open : (v : ℕ) → key_at keys' v ≡ None → v ≡ hop.to.0 → ⊥
  still_open v k e = let here = key_here in let at = ap (key_at keys') e in cc

  settled_before : (v : ℕ) (reach : Reach) → IsSettled reached' keys' v reach → IsSettled reached keys v reach
  settled_before v reach s =
      let ne = still_open v s.no_key in
      record { reach_is = sym (reach_elsewhere v ne) ∙ s.reach_is; no_key = sym (key_elsewhere v ne) ∙ s.no_key }

  settled_after : (v : ℕ) (reach : Reach) → IsSettled reached keys v reach → IsSettled reached' keys' v reach
  settled_after v reach s =
      let ne = not_settled v reach s in
      record { reach_is = reach_elsewhere v ne ∙ s.reach_is; no_key = key_elsewhere v ne ∙ s.no_key }

  -- what stands at the head is the new walk
  is_extended : (v : ℕ) (reach : Reach) → reach_at reached' v ≡ Some reach → v ≡ hop.to.0 → extended tail from hop ≡ reach
  is_extended v reach r e = let here = reach_here in let at = ap (reach_at reached') e in cc

  improve_tree : from.depth + 1 ≤ settled → IsTree network bound start settled reached' keys'
  improve_tree deep = record {
    root = λ node reach r l. elim (cases_eq node hop.to.0) [
      | inl e ↦ absurd (let same = ap (λ (r : Reach). r.last) (is_extended node reach r e) in cc)
      | inr ne ↦ t.root node reach (sym (reach_elsewhere node ne) ∙ r) l
    ];
    branch = λ node reach step r l. elim (cases_eq node hop.to.0) [
      | inl e ↦
          let same = is_extended node reach r e in
          let last : Some (record { tail = tail; hop = hop }) ≡ Some step = ap (λ (r : Reach). r.last) same ∙ l in
          let step_is : record { tail = tail; hop = hop } ≡ step = cc in
          subst (λ (s : Step). Extends network reached' keys' node reach s) step_is
          (record { hop = contains; has_weight = i.has_weight; head = sym e; before = from; settled = settled_after tail.0 from from_settled; weight = sym (ap (λ (r : Reach). r.weight) same); depth = sym (ap (λ (r : Reach). r.depth) same) })
      | inr ne ↦
          let x = t.branch node reach step (sym (reach_elsewhere node ne) ∙ r) l in
          record { hop = x.hop; has_weight = x.has_weight; head = x.head; before = x.before; settled = settled_after step.tail.0 x.before x.settled; weight = x.weight; depth = x.depth }
    ];
    small = λ node reach r. elim (cases_eq node hop.to.0) [
      | inl e ↦
          let same = is_extended node reach r e in
          let w = ap (λ (r : Reach). r.weight) same in
          let d = ap (λ (r : Reach). r.depth) same in
          let s = t.small tail.0 from from_settled.reach_is in
          let light = i.light in
          (omega arith, omega arith)
      | inr ne ↦ t.small node reach (sym (reach_elsewhere node ne) ∙ r)
    ];
    bounded = λ node reach r. elim (cases_eq node hop.to.0) [
      | inl e ↦ ap is_some (ap bound e ∙ i.bound_is)
      | inr ne ↦ t.bounded node reach (sym (reach_elsewhere node ne) ∙ r)
    ];
    queued = λ node key k. elim (cases_eq node hop.to.0) [
      | inl e ↦
          let here = key_here in
          let at = ap (key_at keys') e in
          (extended tail from hop, i.b, ap (reach_at reached') e ∙ reach_here, ap bound e ∙ i.bound_is, (let same : 2 * (from.weight + cost hop) + i.b ≡ key = cc in sym same))
      | inr ne ↦
          let q = t.queued node key (sym (key_elsewhere node ne) ∙ k) in
          (q.0, q.1, reach_elsewhere node ne ∙ q.2, q.3, q.4)
    ];
  }

  -- a node that was reached is reached by a walk that is no heavier
  no_heavier : (v : ℕ) (reach : Reach) → reach_at reached v ≡ Some reach → (better : Reach) × (reach_at reached' v ≡ Some better) × (better.weight ≤ reach.weight)
  no_heavier v reach r = elim (cases_eq v hop.to.0) [
    | inl e ↦ (extended tail from hop, ap (reach_at reached') e ∙ reach_here, (better reach (ap (reach_at reached) (sym e) ∙ r)).1)
    | inr ne ↦ (reach, reach_elsewhere v ne ∙ r, omega arith)
  ]

  improve_ordered : {x : ℕ} → FallsTwice network bound → bound tail.0 ≡ Some x → (left : List Hop) → IsOrdered network bound (2 * from.weight + x) reached keys tail.0 (hop ∷ left) → IsOrdered network bound (2 * from.weight + x) reached' keys' tail.0 left
  improve_ordered {x} f x_is left o = record {
    below = λ u reach b s bu. o.below u reach b (settled_before u reach s) bu;
    above = λ u key k. elim (cases_eq u hop.to.0) [
      | inl e ↦
          let here = key_here in
          let at = ap (key_at keys') e in
          let same : 2 * (from.weight + cost hop) + i.b ≡ key = cc in
          let y = f tail.0 hop contains i.has_weight i.b i.bound_is in
          let same_x : y.0 ≡ x = cc in
          omega arith
      | inr ne ↦ o.above u key (sym (key_elsewhere u ne) ∙ k)
    ];
    relaxed = λ u reach h s c w. elim (o.relaxed u reach h (settled_before u reach s) c w) [
      | inl l ↦ elim (Contains-cons_cases hop left h l.1) [
        | inl e ↦ inr (λ b bh.
            let old = settled_before u reach s in
            let same : from ≡ reach = let a = from_settled.reach_is in let d = ap (reach_at reached) l.0 in let g = old.reach_is in cc in
            let m = ap (λ (r : Reach). r.weight) same in
            let n = ap cost e in
            (extended tail from hop, ap (λ (y : Hop). reach_at reached' y.to.0) (sym e) ∙ reach_here, omega arith))
        | inr rest ↦ inl (l.0, rest)
      ]
      | inr done ↦ inr (λ b bh. let d = done b bh in let n = no_heavier h.to.0 d.0 d.1 in (n.0, n.1, omega arith))
    ];
  }

-- a hop over which no lighter walk leads is left no more
pub leave_relaxed : {network : Network} {bound : ℕ → Option ℕ} {least : ℕ} {tail : NodeId} {from : Reach} {hop : Hop} {reached : List (Option Reach)} {keys : List (Option ℕ)} → IsSettled reached keys tail.0 from → (IsSome hop.weight → IsRelaxed bound reached from hop) → (left : List Hop) → IsOrdered network bound least reached keys tail.0 (hop ∷ left) → IsOrdered network bound least reached keys tail.0 left
leave_relaxed {network} {bound} {least} {tail} {from} {hop} {reached} {keys} from_settled relaxed left o = record {
  below = o.below;
  above = o.above;
  relaxed = λ u reach h s c w. elim (o.relaxed u reach h s c w) [
    | inl l ↦ elim (Contains-cons_cases hop left h l.1) [
      | inl e ↦
          let same : from ≡ reach = let a = from_settled.reach_is in let d = ap (reach_at reached) l.0 in let g = s.reach_is in cc in
          let weighs : IsSome hop.weight = ap (λ (y : Hop). is_some y.weight) e ∙ w in
          inr (subst (λ (y : Hop). IsRelaxed bound reached reach y) e (subst (λ (r : Reach). IsRelaxed bound reached r hop) same (relaxed weighs)))
      | inr rest ↦ inl (l.0, rest)
    ]
    | inr done ↦ inr done
  ];
}

module _ {network : Network} {bound : ℕ → Option ℕ} {start settled : ℕ} {tail : NodeId} {from : Reach} {hop : Hop} {reached : List (Option Reach)} {keys : List (Option ℕ)} {reached' : List (Option Reach)} {keys' : List (Option ℕ)} (t : IsTree network bound start settled reached keys) (from_settled : IsSettled reached keys tail.0 from) (contains : Contains (hops_from network tail.0) hop) (in_reached : hop.to.0 < length reached) (in_keys : hop.to.0 < length keys) (p : Passes bound from hop reached keys reached' keys') where
  -- what holds of the state before holds after
  kept : (P : List (Option Reach) → List (Option ℕ) → Type 0) → P reached keys → P reached' keys'
  kept P h = subst (λ xs. P xs keys') (sym p.reached_same) (subst (λ xs. P reached xs) (sym p.keys_same) h)

  -- the walk that is known to the head: to a settled node, or no heavier
  known_there : IsSome hop.weight → (b : ℕ) → bound hop.to.0 ≡ Some b → (reach : Reach) × (reach_at reached hop.to.0 ≡ Some reach) × ((key_at keys hop.to.0 ≡ None) ⊎ (reach.weight ≤ from.weight + cost hop))
  known_there w b e = elim (p.no_use w b e) [
    | inl n ↦ let r = some_of (reach_at reached hop.to.0) n.0 in (r.0, r.1, inl n.1)
    | inr k ↦
        let q = t.queued hop.to.0 k.0 k.1 in
        let same : q.1 ≡ b = let a = q.3 in cc in
        (q.0, q.2, inr (omega (arith, k.2, q.4)))
  ]

  pass_ordered : {x : ℕ} → FallsTwice network bound → bound tail.0 ≡ Some x → (left : List Hop) → IsOrdered network bound (2 * from.weight + x) reached keys tail.0 (hop ∷ left) → IsOrdered network bound (2 * from.weight + x) reached keys tail.0 left
  pass_ordered {x} f x_is left o = leave_relaxed from_settled (λ weighs b b_is.
      let known = known_there weighs b b_is in
      elim known.2 [
        | inl k ↦
            let y = f tail.0 hop contains weighs b b_is in
            let same_x : y.0 ≡ x = cc in
            let z = o.below hop.to.0 known.0 b (record { reach_is = known.1; no_key = k }) b_is in
            (known.0, known.1, omega arith)
        | inr le ↦ (known.0, known.1, le)
      ]) left o

module _ {network : Network} {bound : ℕ → Option ℕ} {start settled : ℕ} {tail : NodeId} {from : Reach} {hop : Hop} {reached : List (Option Reach)} {keys : List (Option ℕ)} {reached' : List (Option Reach)} {keys' : List (Option ℕ)} (t : IsTree network bound start settled reached keys) (from_settled : IsSettled reached keys tail.0 from) (contains : Contains (hops_from network tail.0) hop) (in_reached : hop.to.0 < length reached) (in_keys : hop.to.0 < length keys) (r : Relaxes bound tail from hop reached keys reached' keys') where
  pub relax_settled : (v : ℕ) (reach : Reach) → IsSettled reached keys v reach → IsSettled reached' keys' v reach
  relax_settled v reach s = elim r [
    | inl i ↦ settled_after t from_settled contains in_reached in_keys i v reach s
    | inr p ↦ kept t from_settled contains in_reached in_keys p (λ xs ks. IsSettled xs ks v reach) s
  ]

  pub relax_tree : from.depth + 1 ≤ settled → IsTree network bound start settled reached' keys'
  relax_tree deep = elim r [
    | inl i ↦ improve_tree t from_settled contains in_reached in_keys i deep
    | inr p ↦ kept t from_settled contains in_reached in_keys p (λ xs ks. IsTree network bound start settled xs ks) t
  ]

  pub relax_ordered : {x : ℕ} → FallsTwice network bound → bound tail.0 ≡ Some x → (left : List Hop) → IsOrdered network bound (2 * from.weight + x) reached keys tail.0 (hop ∷ left) → IsOrdered network bound (2 * from.weight + x) reached' keys' tail.0 left
  relax_ordered {x} f x_is left o = elim r [
    | inl i ↦ improve_ordered t from_settled contains in_reached in_keys i f x_is left o
    | inr p ↦ kept t from_settled contains in_reached in_keys p (λ xs ks. IsOrdered network bound (2 * from.weight + x) xs ks tail.0 left) (pass_ordered t from_settled contains in_reached in_keys p f x_is left o)
  ]

  -- what was reached is reached by a walk that is no heavier
  pub relax_reached : (v : ℕ) (reach : Reach) → reach_at reached v ≡ Some reach → (better : Reach) × (reach_at reached' v ≡ Some better) × (better.weight ≤ reach.weight)
  relax_reached v reach at = elim r [
    | inl i ↦ no_heavier t from_settled contains in_reached in_keys i v reach at
    | inr p ↦ kept t from_settled contains in_reached in_keys p (λ xs ks. (better : Reach) × (reach_at xs v ≡ Some better) × (better.weight ≤ reach.weight)) (reach, at, omega arith)
  ]

  -- no other node is settled by it
  pub relax_unsettled : (v : ℕ) (reach : Reach) → IsSettled reached' keys' v reach → IsSettled reached keys v reach
  relax_unsettled v reach s = elim r [
    | inl i ↦ settled_before t from_settled contains in_reached in_keys i v reach s
    | inr p ↦ subst (λ xs. IsSettled xs keys v reach) p.reached_same (subst (λ ks. IsSettled reached' ks v reach) p.keys_same s)
  ]

  pub relax_long : (length reached' ≡ length reached) × (length keys' ≡ length keys)
  relax_long = elim r [
    | inl i ↦ (ap length i.reached_is ∙ length-set reached hop.to.0 _, ap length i.keys_are ∙ length-set keys hop.to.0 _)
    | inr p ↦ (ap length p.reached_same, ap length p.keys_same)
  ]

  -- nothing changes of other nodes
  pub relax_elsewhere : (v : ℕ) → (v ≡ hop.to.0 → ⊥) → reach_at reached' v ≡ reach_at reached v
  relax_elsewhere v ne = elim r [
    | inl i ↦ reach_elsewhere t from_settled contains in_reached in_keys i v ne
    | inr p ↦ ap (λ xs. reach_at xs v) p.reached_same
  ]
