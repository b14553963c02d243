-- What lies between what a side has settled and a node that a walk leads to.
use Rattle.std.proofs.Common.{◌≡◌, ℕ, ◌+◌, ◌*◌, ◌≤◌, ◌⊎◌, Option, Some, List, [], ◌∷◌, sym, ap, ◌∙◌, inl, inr, arith}
use Rattle.gh_base.specs.declared.edges.Hop.{Hop}
use Rattle.gh_base.specs.Networks.{Network}
use Rattle.walk_rules.specs.Walks.{IsWalk, weight_of}
use Rattle.walk_rules.proofs.Options.{some_or_none, some_of}
use Rattle.search_queue.specs.Keys.{key_at}
use Rattle.alt_search.specs.declared.reach.Reach.{Reach}
use Rattle.alt_search.specs.Progress.{reach_at, IsSettled}
use Rattle.two_way_search.specs.Sides.{FallsTwice, IsOrdered, IsUnderway}
use Rattle.two_way_search.proofs.Facing.{falls_twice_along}

-- an open node on a walk, known by a walk that is no heavier than the way there, and the rest of the walk
pub record IsOpenOn (network : Network) (bound : ℕ → Option ℕ) (reached : List (Option Reach)) (keys : List (Option ℕ)) (to limit : ℕ) : Type 0 where
  pub node : ℕ
  pub reach : Reach
  pub reach_is : reach_at reached node ≡ Some reach
  pub b : ℕ
  pub bound_is : bound node ≡ Some b
  pub key_is : key_at keys node ≡ Some (2 * reach.weight + b)
  pub rest : List Hop
  pub walk : IsWalk network node rest to
  pub before : reach.weight + weight_of rest ≤ limit

-- the walk's last node is settled by a walk that is no heavier
pub record IsSettledBy (reached : List (Option Reach)) (keys : List (Option ℕ)) (node limit : ℕ) : Type 0 where
  pub reach : Reach
  pub settled : IsSettled reached keys node reach
  pub before : reach.weight ≤ limit

module _ {network : Network} {bound : ℕ → Option ℕ} {end settled least node : ℕ} {reached : List (Option Reach)} {keys : List (Option ℕ)} (w : IsUnderway network bound end settled reached keys) (o : IsOrdered network bound least reached keys node []) (falls : FallsTwice network bound) where
  open_here : (a b key : ℕ) (hops : List Hop) (reach : Reach) → IsWalk network a hops b → reach_at reached a ≡ Some reach → key_at keys a ≡ Some key → IsOpenOn network bound reached keys b (reach.weight + weight_of hops)
  open_here a b key hops reach walk r k =
      let q = w.tree.queued a key k in
      let same : q.0 ≡ reach = let x = q.2 in cc in
      let weighs : q.0.weight ≡ reach.weight = ap (λ (r : Reach). r.weight) same in
      record { node = a; reach = reach; reach_is = r; b = q.1; bound_is = q.3; key_is = k ∙ ap Some (q.4 ∙ ap (λ n. 2 * n + q.1) weighs); rest = hops; walk = walk; before = omega arith }

  frontier : (hops : List Hop) (a b y : ℕ) (reach : Reach) → IsWalk network a hops b → bound b ≡ Some y → reach_at reached a ≡ Some reach → IsOpenOn network bound reached keys b (reach.weight + weight_of hops) ⊎ IsSettledBy reached keys b (reach.weight + weight_of hops)
  frontier [] a b y reach walk e r =
      elim (some_or_none (key_at keys a)) [
        | inl k ↦ inl (open_here a b k.0 [] reach walk r k.1)
        | inr n ↦ inr (record { reach = reach; settled = record { reach_is = ap (reach_at reached) (sym walk) ∙ r; no_key = ap (key_at keys) (sym walk) ∙ n }; before = omega arith })
      ]
  frontier (hop ∷ hops) a b y reach walk e r =
      elim (some_or_none (key_at keys a)) [
        | inl k ↦ inl (open_here a b k.0 (hop ∷ hops) reach walk r k.1)
        | inr n ↦ elim (o.relaxed a reach hop (record { reach_is = r; no_key = n }) walk.0 walk.1) [
          | inl h ↦ absurd (omega (arith, h.1.1))
          | inr h ↦
              let x = falls_twice_along network bound falls hops hop.to.0 b walk.2 y e in
              let next = h x.0 x.1 in
              elim (frontier hops hop.to.0 b y next.0 walk.2 e next.1) [
                | inl p ↦ inl (record { node = p.node; reach = p.reach; reach_is = p.reach_is; b = p.b; bound_is = p.bound_is; key_is = p.key_is; rest = p.rest; walk = p.walk; before = omega (arith, p.before, next.2) })
                | inr s ↦ inr (record { reach = s.reach; settled = s.settled; before = omega (arith, s.before, next.2) })
              ]
        ]
      ]

  -- on a walk from the end some node is open, or its last node is settled
  pub on_walk : (hops : List Hop) (b y : ℕ) → IsWalk network end hops b → bound b ≡ Some y → IsOpenOn network bound reached keys b (weight_of hops) ⊎ IsSettledBy reached keys b (weight_of hops)
  on_walk hops b y walk e =
      let begin = w.end_known in
      elim (frontier hops end b y begin.0 walk e begin.1) [
        | inl p ↦ inl (record { node = p.node; reach = p.reach; reach_is = p.reach_is; b = p.b; bound_is = p.bound_is; key_is = p.key_is; rest = p.rest; walk = p.walk; before = omega (arith, p.before, begin.2) })
        | inr s ↦ inr (record { reach = s.reach; settled = s.settled; before = omega (arith, s.before, begin.2) })
      ]

  -- the weight of a settled node is least
  pub settled_least : (u : ℕ) (reach : Reach) → IsSettled reached keys u reach → (others : List Hop) → IsWalk network end others u → reach.weight ≤ weight_of others
  settled_least u reach s others walk =
      let b = some_of (bound u) (w.tree.bounded u reach s.reach_is) in
      elim (on_walk others u b.0 walk b.1) [
        | inl p ↦
            let x = falls_twice_along network bound falls p.rest p.node u p.walk b.0 b.1 in
            let same : x.0 ≡ p.b = let c = x.1 in let d = p.bound_is in cc in
            omega (arith, x.2, p.before, o.above p.node (2 * p.reach.weight + p.b) p.key_is, o.below u reach b.0 s b.1)
        | inr h ↦
            let same : h.reach ≡ reach = let a = h.settled.reach_is in let c = s.reach_is in cc in
            let weighs = ap (λ (r : Reach). r.weight) same in
            omega (arith, h.before)
      ]
