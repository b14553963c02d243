-- A side between two steps.
use Rattle.std.proofs.Common.{◌≡◌, ℕ, ◌+◌, ◌<◌, ◌≤◌, false, not, ◌&&◌, Option, Some, None, List, length, is_some, Contains, sym, ap, ◌∙◌, inl, inr, arith}
use Rattle.std.specs.Prelude.{slice_set}
use Rattle.std.proofs.lemmas.List.{get_or-set_other, length-set}
use Rattle.std.proofs.lemmas.Bool.{cases_Bool}
use Rattle.gh_base.specs.declared.edges.Hop.{Hop}
use Rattle.gh_base.specs.declared.edges.NodeId.{NodeId}
use Rattle.alt_search.specs.declared.reach.Reach.{Reach}
use Rattle.gh_base.specs.Networks.{Network}
use Rattle.walk_rules.specs.Walks.{hops_from}
use Rattle.search_queue.specs.Keys.{key_at}
use Rattle.alt_search.specs.Progress.{reach_at, IsSettled, is_settled}
use Rattle.two_way_search.specs.Sides.{Relaxes, IsUnderway}
use Rattle.alt_search.proofs.Listed.{within, emptied}
use Rattle.alt_search.proofs.Underway.{settled_true, true_settled, same_settled}
use Rattle.walk_rules.proofs.Counting.{count_below-same, count_below-one_more}
use Rattle.two_way_search.proofs.Settle.{settle_tree}
use Rattle.two_way_search.proofs.Relax.{relax_tree, relax_reached, relax_settled, relax_unsettled, relax_long}

-- a node that leaves the queue
pub settle_underway : {network : Network} {bound : ℕ → Option ℕ} {start settled : ℕ} {reached : List (Option Reach)} {keys : List (Option ℕ)} (u key : ℕ) → IsUnderway network bound start settled reached keys → key_at keys u ≡ Some key → IsUnderway network bound start (settled + 1) reached (slice_set keys u None)
settle_underway {network} {bound} {start} {settled} {reached} {keys} u key w k = record {
  long_reached = w.long_reached;
  long_keys = length-set keys u None ∙ w.long_keys;
  tree = settle_tree u w.tree;
  counted =
      let q = w.tree.queued u key k in
      let was : is_settled reached keys u ≡ false = elim (cases_Bool (is_settled reached keys u)) [
        | inl t ↦ absurd (let s = settled_true reached keys u t in let n = s.1.no_key in cc)
        | inr e ↦ e
      ] in
      let now = true_settled reached (slice_set keys u None) u q.0 (record { reach_is = q.2; no_key = emptied keys u }) in
      let more = count_below-one_more (is_settled reached keys) (is_settled reached (slice_set keys u None)) (network.nodes) u (omega (arith, within keys u key k, w.long_keys)) was now
      (λ i n. ap (λ o. is_some (reach_at reached i) && not (is_some o)) (sym (get_or-set_other keys u i None None n))) in
      let before = w.counted in
      omega arith;
  end_known = w.end_known;
}

pub relax_underway : {network : Network} {bound : ℕ → Option ℕ} {start settled : ℕ} {tail : NodeId} {from : Reach} {hop : Hop} {reached : List (Option Reach)} {keys : List (Option ℕ)} {reached' : List (Option Reach)} {keys' : List (Option ℕ)} → IsUnderway network bound start settled reached keys → IsSettled reached keys tail.0 from → Contains (hops_from network tail.0) hop → hop.to.0 < network.nodes → from.depth + 1 ≤ settled → Relaxes bound tail from hop reached keys reached' keys' → IsUnderway network bound start settled reached' keys'
relax_underway {network} {bound} {start} {settled} {tail} {from} {hop} {reached} {keys} {reached'} {keys'} w s c i d r =
    let in_reached : hop.to.0 < length reached = let a = w.long_reached in omega arith in
    let in_keys : hop.to.0 < length keys = let a = w.long_keys in omega arith in
    let long = relax_long w.tree s c in_reached in_keys r in
    record {
      long_reached = long.0 ∙ w.long_reached;
      long_keys = long.1 ∙ w.long_keys;
      tree = relax_tree w.tree s c in_reached in_keys r d;
      counted = w.counted ∙ count_below-same (is_settled reached keys) (is_settled reached' keys') (network.nodes) (λ v l. same_settled reached keys reached' keys' v (relax_settled w.tree s c in_reached in_keys r v) (relax_unsettled w.tree s c in_reached in_keys r v));
      end_known =
          let old = w.end_known in
          let new = relax_reached w.tree s c in_reached in_keys r start old.0 old.1 in
          (new.0, new.1, omega arith);
    }
