-- A node leaves the queue: the search settles it.
use Rattle.std.proofs.Common.{◌≡◌, ℕ, ◌+◌, ◌≤◌, Option, Some, None, List, [], Contains, sym, subst, ap, ◌∙◌, inl, inr, arith}
use Rattle.std.specs.Prelude.{slice_set}
use Rattle.std.proofs.lemmas.List.{get_or-set_other}
use Rattle.std.proofs.lemmas.Bool.{cases_eq}
use Rattle.alt_search.specs.declared.reach.Reach.{Reach}
use Rattle.gh_base.specs.Networks.{Network}
use Rattle.walk_rules.specs.Walks.{hops_from}
use Rattle.search_queue.specs.Keys.{key_at}
use Rattle.alt_search.specs.Progress.{reach_at, IsSettled}
use Rattle.two_way_search.specs.Sides.{IsTree, IsOrdered}
use Rattle.alt_search.proofs.Listed.{before_emptied, after_emptied}

-- settled nodes stay settled
pub stays_settled : (reached : List (Option Reach)) (keys : List (Option ℕ)) (u v : ℕ) (reach : Reach) → IsSettled reached keys v reach → IsSettled reached (slice_set keys u None) v reach
stays_settled reached keys u v reach s = record { reach_is = s.reach_is; no_key = after_emptied keys u v s.no_key }

pub settle_tree : {network : Network} {bound : ℕ → Option ℕ} {start settled : ℕ} {reached : List (Option Reach)} {keys : List (Option ℕ)} (u : ℕ) → IsTree network bound start settled reached keys → IsTree network bound start (settled + 1) reached (slice_set keys u None)
settle_tree {reached} {keys} u t = record {
  root = t.root;
  branch = λ node reach step r l.
      let e = t.branch node reach step r l in
      record { hop = e.hop; has_weight = e.has_weight; head = e.head; before = e.before; settled = stays_settled reached keys u step.tail.0 e.before e.settled; weight = e.weight; depth = e.depth };
  small = λ node reach r. let s = t.small node reach r in (omega arith, s.1);
  bounded = t.bounded;
  queued = λ node key k. t.queued node key (before_emptied keys u node key k).1;
}

pub settle_ordered : {network : Network} {bound : ℕ → Option ℕ} {start settled least node : ℕ} {reached : List (Option Reach)} {keys : List (Option ℕ)} (u key : ℕ) → IsTree network bound start settled reached keys → IsOrdered network bound least reached keys node [] → key_at keys u ≡ Some key → ((v k : ℕ) → key_at keys v ≡ Some k → key ≤ k) → IsOrdered network bound key reached (slice_set keys u None) u (hops_from network u)
settle_ordered {network} {bound} {start} {settled} {least} {node} {reached} {keys} u key t o e m = record {
  below = λ v reach b s bv.
      elim (cases_eq v u) [
        | inl same ↦
            let q = t.queued u key e in
            let r : q.0 ≡ reach = let a = ap (reach_at reached) same in let b = s.reach_is in cc in
            let w = ap (λ (r : Reach). r.weight) r in
            let b' : q.1 ≡ b = let a = ap bound same in cc in
            omega arith
        | inr ne ↦
            let old = o.below v reach b (record { reach_is = s.reach_is; no_key = sym (get_or-set_other keys u v None None ne) ∙ s.no_key }) bv in
            omega (arith, o.above u key e)
      ];
  above = λ v k h. m v k (before_emptied keys u v k h).1;
  relaxed = λ v reach hop s c w.
      elim (cases_eq v u) [
        | inl same ↦ inl (same, subst (λ (x : ℕ). Contains (hops_from network x) hop) same c)
        | inr ne ↦
            elim (o.relaxed v reach hop (record { reach_is = s.reach_is; no_key = sym (get_or-set_other keys u v None None ne) ∙ s.no_key }) c w) [
              | inl h ↦ absurd (omega (arith, h.1.1))
              | inr h ↦ inr h
            ]
      ];
}
