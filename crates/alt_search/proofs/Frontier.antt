-- What lies between what is settled and a node that a walk leads to.
use Rattle.std.proofs.Common.{◌≡◌, ℕ, ◌+◌, ◌≤◌, ◌⊎◌, Option, Some, List, [], ◌∷◌, sym, ap, ◌∙◌, inl, inr, arith}
use Rattle.gh_base.specs.declared.edges.Hop.{Hop}
use Rattle.alt_search.specs.declared.reach.Reach.{Reach}
use Rattle.gh_base.specs.Networks.{Network}
use Rattle.walk_rules.specs.Walks.{IsWalk, weight_of}
use Rattle.walk_rules.specs.Potentials.{FallsAlong}
use Rattle.search_queue.specs.Keys.{key_at}
use Rattle.alt_search.specs.Progress.{reach_at, IsSettled, IsTree, IsOrdered}
use Rattle.walk_rules.proofs.Options.{some_or_none}
use Rattle.walk_rules.proofs.Walking.{falls_along_walk}

-- Some open node is no further than the walk's end, or that end is settled by a walk that is no heavier.
pub record IsOpenBefore (keys : List (Option ℕ)) (limit : ℕ) : Type 0 where
  pub node : ℕ
  pub key : ℕ
  pub key_is : key_at keys node ≡ Some key
  pub before : key ≤ limit

pub record IsSettledBy (reached : List (Option Reach)) (keys : List (Option ℕ)) (node limit : ℕ) : Type 0 where
  pub reach : Reach
  pub settled : IsSettled reached keys node reach
  pub before : reach.weight ≤ limit

module _ {network : Network} {bound : ℕ → Option ℕ} {start settled least node : ℕ} {reached : List (Option Reach)} {keys : List (Option ℕ)} (tree : IsTree network bound start settled reached keys) (ordered : IsOrdered network bound least reached keys node []) (falls : FallsAlong network bound) where
  -- an open node on the way
  open_here : (a b y key : ℕ) (hops : List Hop) (reach : Reach) → IsWalk network a hops b → bound b ≡ Some y → reach_at reached a ≡ Some reach → key_at keys a ≡ Some key → IsOpenBefore keys (reach.weight + weight_of hops + y)
  open_here a b y key hops reach w e r k =
      let q = tree.queued a key k in
      let x = falls_along_walk network bound falls hops a b w y e in
      let same_reach : q.0 ≡ reach = cc in
      let same_weight : q.0.weight ≡ reach.weight = ap (λ (r : Reach). r.weight) same_reach in
      let same_bound : q.1 ≡ x.0 = cc in
      record { node = a; key = key; key_is = k; before = omega arith }

  pub frontier : (hops : List Hop) (a b y : ℕ) (reach : Reach) → IsWalk network a hops b → bound b ≡ Some y → reach_at reached a ≡ Some reach → IsOpenBefore keys (reach.weight + weight_of hops + y) ⊎ IsSettledBy reached keys b (reach.weight + weight_of hops)
  frontier [] a b y reach w e r =
      elim (some_or_none (key_at keys a)) [
        | inl k ↦ inl (open_here a b y k.0 [] reach w e r k.1)
        | inr n ↦ inr (record { reach = reach; settled = record { reach_is = ap (reach_at reached) (sym w) ∙ r; no_key = ap (key_at keys) (sym w) ∙ n }; before = omega arith })
      ]
  frontier (hop ∷ hops) a b y reach w e r =
      elim (some_or_none (key_at keys a)) [
        | inl k ↦ inl (open_here a b y k.0 (hop ∷ hops) reach w e r k.1)
        | inr n ↦ elim (ordered.relaxed a reach hop (record { reach_is = r; no_key = n }) w.0 w.1) [
          | inl h ↦ absurd (omega (arith, h.1.1))
          | inr h ↦
              let x = falls_along_walk network bound falls hops hop.to.0 b w.2 y e in
              let next = h x.0 x.1 in
              elim (frontier hops hop.to.0 b y next.0 w.2 e next.1) [
                | inl o ↦ inl (record { node = o.node; key = o.key; key_is = o.key_is; before = omega arith })
                | inr s ↦ inr (record { reach = s.reach; settled = s.settled; before = omega arith })
              ]
        ]
      ]
