-- What a search that stopped tells of weights.
use Rattle.std.proofs.Common.{◌≡◌, ℕ, ◌+◌, ◌<◌, ◌≤◌, ◌⊎◌, Bool, true, false, Option, Some, None, List, [], length, length-set, refl, sym, ap, ◌∙◌, subst, inl, inr, arith}
use Rattle.std.proofs.lemmas.List.{get_or-set_other}
use Rattle.std.proofs.lemmas.Bool.{cases_eq}
use Rattle.gh_base.specs.declared.edges.Hop.{Hop}
use Rattle.gh_base.specs.Networks.{Network, LeadsToNodes}
use Rattle.walk_rules.specs.Walks.{IsWalk, weight_of}
use Rattle.walk_rules.specs.Potentials.{FallsAlong, flat}
use Rattle.walk_rules.specs.Distances.{IsReach}
use Rattle.walk_rules.specs.Evidence.{TellsLeast}
use Rattle.walk_rules.proofs.Options.{some_or_none, some_of}
use Rattle.walk_rules.proofs.Walking.{falls_along_walk, walk_within}
use Rattle.search_queue.specs.Keys.{key_at}
use Rattle.alt_search.specs.declared.reach.Reach.{Reach}
use Rattle.alt_search.specs.Progress.{reach_at, IsSettled, IsOrdered, IsUnderway, IsLeastOpen, Stops, IsDone}
use Rattle.alt_search.specs.Exploring.{told}
use Rattle.alt_search.proofs.Listed.{after_emptied}
use Rattle.alt_search.proofs.Trees.{walk_of}
use Rattle.alt_search.proofs.Frontier.{frontier}
use Rattle.alt_search.proofs.Finish.{least_at_target}

-- a weight that is told is that of a node that was reached and isn't open
told_some : (reach : Option Reach) (key : Option ℕ) (w : ℕ) → told reach key ≡ Some w → (r : Reach) × (reach ≡ Some r) × (key ≡ None) × (r.weight ≡ w)
told_some None key w e = absurd (cc)
told_some (Some r) None w e = (r, refl, refl, cc)
told_some (Some r) (Some k) w e = absurd (cc)

told_none : (reach : Option Reach) (key : Option ℕ) → told reach key ≡ None → (r : Reach) → reach ≡ Some r → key ≡ None → ⊥
told_none None key n r e k = cc
told_none (Some x) None n r e k = cc
told_none (Some x) (Some y) n r e k = cc

-- what was open before the last step is open, or is the target
open_or_target : (at_target : Bool) (target : ℕ) (before keys : List (Option ℕ)) → Stops at_target target before keys → (u key : ℕ) → key_at before u ≡ Some key → key_at keys u ≡ None → (u ≡ target) × IsLeastOpen before target
open_or_target false target before keys s u key b n = absurd (let a = s.0 u in cc)
open_or_target true target before keys s u key b n = elim (cases_eq u target) [
  | inl e ↦ (e, s.0)
  | inr ne ↦ absurd (let a = ap (λ xs. key_at xs u) s.1 in let c = get_or-set_other before target u None None ne in cc)
]

-- what wasn't open isn't
stays_closed : (at_target : Bool) (target : ℕ) (before keys : List (Option ℕ)) → Stops at_target target before keys → (u : ℕ) → key_at before u ≡ None → key_at keys u ≡ None
stays_closed false target before keys s u n = ap (λ xs. key_at xs u) s.1 ∙ n
stays_closed true target before keys s u n = ap (λ xs. key_at xs u) s.1 ∙ after_emptied before target u n

module _ {network : Network} {bound : ℕ → Option ℕ} {start target settled least node : ℕ} {reached : List (Option Reach)} {keys : List (Option ℕ)} (w : IsUnderway network bound start target settled reached keys) (o : IsOrdered network bound least reached keys node []) (f : FallsAlong network bound) where
  -- a walk to a node goes over an open node, or the node is settled by one no heavier
  open_or_settled : (u left : ℕ) → bound u ≡ Some left → (hops : List Hop) → IsWalk network start hops u → ((v : ℕ) × (key : ℕ) × (key_at keys v ≡ Some key) × (key ≤ weight_of hops + left)) ⊎ ((reach : Reach) × IsSettled reached keys u reach × (reach.weight ≤ weight_of hops))
  open_or_settled u left e hops walk =
      let x = falls_along_walk network bound f hops start u walk left e in
      let begin = w.start_known x.0 x.1 in
      elim (frontier w.tree o f hops start u left begin.0 walk e begin.1) [
        | inl h ↦ inl (h.node, h.key, h.key_is, omega (arith, h.before, begin.2))
        | inr h ↦ inr (h.reach, h.settled, omega (arith, h.before, begin.2))
      ]

  -- the weight of a settled node is least
  settled_least : (u : ℕ) (reach : Reach) → IsSettled reached keys u reach → (others : List Hop) → IsWalk network start others u → reach.weight ≤ weight_of others
  settled_least u reach s others walk =
      let b = some_of (bound u) (w.tree.bounded u reach s.reach_is) in
      elim (open_or_settled u b.0 b.1 others walk) [
        | inl h ↦ omega (arith, h.3, o.above h.0 h.1 h.2, o.below u reach b.0 s b.1)
        | inr h ↦
            let same : h.0 ≡ reach = let a = h.1.reach_is in let c = s.reach_is in cc in
            let weighs = ap (λ (r : Reach). r.weight) same in
            omega (arith, h.2)
      ]

-- a node that is told of has a walk of that weight, whatever the bounds are
pub told_walk : {network : Network} {bound : ℕ → Option ℕ} {start target settled : ℕ} {reached : List (Option Reach)} {keys : List (Option ℕ)} {at_target : Bool} → IsDone network bound start target settled reached keys at_target → (u x : ℕ) → told (reach_at reached u) (key_at keys u) ≡ Some x → (hops : List Hop) × IsWalk network start hops u × (weight_of hops ≡ x)
told_walk {reached} {keys} d u x e =
    let t = told_some (reach_at reached u) (key_at keys u) x e in
    let walk = walk_of d.underway.tree t.0.depth u t.0 t.1 refl in
    (walk.0, walk.1, walk.2 ∙ t.3)

pub tells_least : {network : Network} {bound : ℕ → Option ℕ} {start target settled : ℕ} {reached : List (Option Reach)} {keys : List (Option ℕ)} (at_target : Bool) → IsDone network bound start target settled reached keys at_target → FallsAlong network bound → TellsLeast network bound start target (λ node. told (reach_at reached node) (key_at keys node))
tells_least {network} {bound} {start} {target} {settled} {reached} {keys} at_target d f =
    let w = d.underway in
    let o = (d.in_order f).ordered in
    record {
      least = λ u x e.
          let t = told_some (reach_at reached u) (key_at keys u) x e in
          let walk = walk_of w.tree t.0.depth u t.0 t.1 refl in
          record {
            hops = walk.0;
            is_least = record {
              walk = walk.1;
              least = λ others other. elim (some_or_none (key_at d.open_keys u)) [
                | inl k ↦
                    let at = open_or_target at_target target d.open_keys keys d.stops u k.0 k.1 t.2 in
                    omega (arith, walk.2, least_at_target w o f at.1 t.0 (ap (reach_at reached) (sym at.0) ∙ t.1) others (subst (λ (v : ℕ). IsWalk network start others v) at.0 other))
                | inr n ↦ omega (arith, walk.2, settled_least w o f u t.0 (record { reach_is = t.1; no_key = n }) others other)
              ];
            };
            weight_is = walk.2 ∙ t.3;
          };
      rest = λ u left hops none b walk. elim (open_or_settled w o f u left b hops walk) [
        | inl h ↦ to_target at_target d.stops h.0 h.1 h.2 (weight_of hops + left) h.3
        | inr h ↦ absurd (told_none (reach_at reached u) (key_at keys u) none h.0 h.1.reach_is (stays_closed at_target target d.open_keys keys d.stops u h.1.no_key))
      ];
    }
  where
    to_target : (at_target : Bool) → Stops at_target target d.open_keys keys → (v key : ℕ) → key_at d.open_keys v ≡ Some key → (limit : ℕ) → key ≤ limit → (others : List Hop) × IsWalk network start others target × (weight_of others ≤ limit)
    to_target false s v key k limit l = absurd (let a = s.0 v in cc)
    to_target true s v key k limit l =
        let q = d.underway.tree.queued target s.0.key s.0.key_is in
        let walk = walk_of d.underway.tree q.0.depth target q.0 q.2 refl in
        (walk.0, walk.1, omega (arith, walk.2, q.4, s.0.least v key k))

-- of the same places and keys the same is told
pub tells_same : {network : Network} {bound : ℕ → Option ℕ} {start target : ℕ} {reached reached' : List (Option Reach)} {keys keys' : List (Option ℕ)} → reached' ≡ reached → keys' ≡ keys → TellsLeast network bound start target (λ node. told (reach_at reached node) (key_at keys node)) → TellsLeast network bound start target (λ node. told (reach_at reached' node) (key_at keys' node))
tells_same r k t = rw (r, k) t

-- with no bounds, and to no node, each least weight is told
pub all_told : (network : Network) (start target : ℕ) (weight : ℕ → Option ℕ) → TellsLeast network flat start target weight → LeadsToNodes network → start < network.nodes → network.nodes ≤ target → (node : ℕ) (o : Option ℕ) → weight node ≡ o → IsReach network start node o
all_told network start target weight t leads s past node None e = λ hops walk.
    let r = t.rest node 0 hops e refl walk in
    omega (arith, walk_within network leads r.0 start target s r.1)
all_told network start target weight t leads s past node (Some x) e = t.least node x e

-- there are as many keys as places
pub same_places : {network : Network} {bound : ℕ → Option ℕ} {start target settled : ℕ} {reached : List (Option Reach)} {keys : List (Option ℕ)} (at_target : Bool) → IsDone network bound start target settled reached keys at_target → length keys ≡ length reached
same_places {target = target} {keys = keys} at_target d = omega (arith, kept at_target d.stops, d.underway.long_keys, d.underway.long_reached)
  where
    kept : (at_target : Bool) → Stops at_target target d.open_keys keys → length keys ≡ length d.open_keys
    kept false s = ap length s.1
    kept true s = ap length s.1 ∙ length-set d.open_keys target None
