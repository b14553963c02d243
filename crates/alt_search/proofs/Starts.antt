-- At which nodes a search was started.
use Rattle.std.proofs.Common.{◌≡◌, ℕ, ◌+◌, ◌<◌, ◌≤◌, true, false, subst, sym, Option, Some, None, List, [], zero, suc, refl, ap, ◌∙◌, inl, inr, arith}
use Rattle.std.specs.Prelude.{⊤}
use Rattle.alt_search.specs.declared.reach.Reach.{Reach}
use Rattle.gh_base.specs.Networks.{Network}
use Rattle.walk_rules.specs.Walks.{weight_of}
use Rattle.walk_rules.specs.Potentials.{FallsAlong}
use Rattle.walk_rules.proofs.Walking.{falls_along_walk}
use Rattle.search_queue.specs.Keys.{key_at}
use Rattle.alt_search.specs.Progress.{reach_at, is_settled, IsSettled, IsTree, IsOrdered, IsUnderway, IsLeastOpen}
use Rattle.walk_rules.specs.Starts.{IsCandidate, StartsAt}
use Rattle.alt_search.proofs.Frontier.{frontier}
use Rattle.std.proofs.lemmas.Bool.{cases_Bool}
use Rattle.walk_rules.proofs.Options.{some_or_none, some_of}
use Rattle.walk_rules.proofs.Counting.{count_below-none}
use Rattle.alt_search.proofs.Trees.{walk_of}
use Rattle.alt_search.proofs.Underway.{settled_true, true_settled}

module _ {network : Network} {bound : ℕ → Option ℕ} {start target settled least node : ℕ} {reached : List (Option Reach)} {keys : List (Option ℕ)} (w : IsUnderway network bound start target settled reached keys) (o : IsOrdered network bound least reached keys node []) (f : FallsAlong network bound) where
  -- what is settled is a candidate of a sum up to the least
  settled_candidate : (May : ℕ → Type 0) → ((sum : ℕ) → sum ≤ least → May sum) → (u : ℕ) → is_settled reached keys u ≡ true → IsCandidate network bound start target May u
  settled_candidate May may u p =
      let s = settled_true reached keys u p in
      let b = some_of (bound u) (w.tree.bounded u s.0 s.1.reach_is) in
      let walk = walk_of w.tree s.0.depth u s.0 s.1.reach_is refl in
      let below = o.below u s.0 b.0 s.1 b.1 in
      record {
        other = λ e. w.target_open s.0 (subst (λ (n : ℕ). IsSettled reached keys n s.0) e s.1);
        hops = walk.0;
        walk = walk.1;
        left = b.0;
        bound_is = b.1;
        sum = may (weight_of walk.0 + b.0) (let e = walk.2 in omega arith);
      }

  -- a candidate is settled, unless some open node is no further
  candidate_settled : (Must : ℕ → Type 0) → ((sum u key : ℕ) → Must sum → key_at keys u ≡ Some key → key ≤ sum → ⊥) → (u : ℕ) → IsCandidate network bound start target Must u → is_settled reached keys u ≡ true
  candidate_settled Must must u c =
      let x = falls_along_walk network bound f c.hops start u c.walk c.left c.bound_is in
      let begin = w.start_known x.0 x.1 in
      elim (frontier w.tree o f c.hops start u c.left begin.0 c.walk c.bound_is begin.1) [
        | inl h ↦ absurd (must (weight_of c.hops + c.left) h.node h.key c.sum h.key_is (let a = h.before in let b = begin.2 in omega arith))
        | inr h ↦ true_settled reached keys u h.reach h.settled
      ]

  pub starts_at_target : bound target ≡ Some 0 → IsLeastOpen keys target → (from : Reach) → reach_at reached target ≡ Some from → StartsAt network bound start target (λ sum. sum ≤ from.weight) (λ sum. sum < from.weight) settled
  starts_at_target at_target open_target from r =
      let key = open_target.key in
      let q = w.tree.queued target key open_target.key_is in
      let same : q.0 ≡ from = cc in
      let weighs = ap (λ (r : Reach). r.weight) same in
      let nothing : q.1 ≡ 0 = let a = at_target in cc in
      let least_is = o.above target key open_target.key_is in
      record {
        passes = is_settled reached keys;
        count = w.counted;
        only = settled_candidate (λ sum. sum ≤ from.weight) (λ sum le. omega arith);
        each = candidate_settled (λ sum. sum < from.weight) (λ sum u other lt is le. omega (arith, open_target.least u other is));
      }

  pub starts_at_end : ((v : ℕ) → key_at keys v ≡ None) → StartsAt network bound start target (λ sum. ⊤) (λ sum. ⊤) settled
  starts_at_end n = record {
    passes = is_settled reached keys;
    count = w.counted;
    only = settled_candidate (λ sum. ⊤) (λ sum le. tt);
    each = candidate_settled (λ sum. ⊤) (λ sum u key t is le. let a = n u in cc);
  }

-- whether the bounds are feasible or not
pub starts_once : {network : Network} {bound : ℕ → Option ℕ} {start target settled : ℕ} {reached : List (Option Reach)} {keys : List (Option ℕ)} → IsUnderway network bound start target settled reached keys → StartsAt network bound start target (λ sum. ⊤) (λ sum. ⊥) settled
starts_once {network} {bound} {start} {target} {settled} {reached} {keys} w = record {
  passes = is_settled reached keys;
  count = w.counted;
  only = λ u p.
      let s = settled_true reached keys u p in
      let b = some_of (bound u) (w.tree.bounded u s.0 s.1.reach_is) in
      let walk = walk_of w.tree s.0.depth u s.0 s.1.reach_is refl in
      record { other = λ e. w.target_open s.0 (subst (λ (n : ℕ). IsSettled reached keys n s.0) e s.1); hops = walk.0; walk = walk.1; left = b.0; bound_is = b.1; sum = tt };
  each = λ u c. absurd c.sum;
}

-- each settled node was reached from the start, which is settled
start_settled : {network : Network} {bound : ℕ → Option ℕ} {start settled : ℕ} {reached : List (Option Reach)} {keys : List (Option ℕ)} → IsTree network bound start settled reached keys → (depth u : ℕ) (reach : Reach) → IsSettled reached keys u reach → reach.depth ≡ depth → (first : Reach) × IsSettled reached keys start first
start_settled {reached} {keys} t zero u reach s d = elim (some_or_none reach.last) [
  | inl l ↦ absurd (omega (arith, (t.branch u reach l.0 s.reach_is l.1).depth))
  | inr n ↦ (reach, subst (λ (v : ℕ). IsSettled reached keys v reach) (t.root u reach s.reach_is n).0 s)
]
start_settled {reached} {keys} t (suc depth) u reach s d = elim (some_or_none reach.last) [
  | inl l ↦ let e = t.branch u reach l.0 s.reach_is l.1 in start_settled t depth l.0.tail.0 e.before e.settled (omega (arith, e.depth))
  | inr n ↦ (reach, subst (λ (v : ℕ). IsSettled reached keys v reach) (t.root u reach s.reach_is n).0 s)
]

-- from the target to itself nothing is settled
pub none_from_target : {network : Network} {bound : ℕ → Option ℕ} {start target settled : ℕ} {reached : List (Option Reach)} {keys : List (Option ℕ)} → IsUnderway network bound start target settled reached keys → start ≡ target → settled ≡ 0
none_from_target {network} {bound} {start} {target} {settled} {reached} {keys} w same =
    w.counted ∙ count_below-none (is_settled reached keys) network.nodes (λ i. elim (cases_Bool (is_settled reached keys i)) [
      | inl p ↦ absurd (let s = settled_true reached keys i p in let f = start_settled w.tree s.0.depth i s.0 s.1 refl in w.target_open f.0 (subst (λ (v : ℕ). IsSettled reached keys v f.0) same f.1))
      | inr e ↦ e
    ])

-- from a node to itself it starts nowhere
pub starts_nowhere : (network : Network) (bound : ℕ → Option ℕ) (start target : ℕ) (May Must : ℕ → Type 0) → ((sum : ℕ) → Must sum → ⊥) → StartsAt network bound start target May Must 0
starts_nowhere network bound start target May Must never = record {
  passes = λ node. false;
  count = sym (count_below-none (λ node. false) network.nodes (λ node. refl));
  only = λ node e. absurd (cc);
  each = λ node c. absurd (never (weight_of c.hops + c.left) c.sum);
}
