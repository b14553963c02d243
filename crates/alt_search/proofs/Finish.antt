-- What a search has shown when it ends.
use Rattle.std.proofs.Common.{◌≡◌, ℕ, ◌≤◌, Option, Some, None, List, [], IsSome, ap, inl, inr, arith}
use Rattle.gh_base.specs.declared.edges.Hop.{Hop}
use Rattle.alt_search.specs.declared.reach.Reach.{Reach}
use Rattle.gh_base.specs.Networks.{Network}
use Rattle.walk_rules.specs.Walks.{IsWalk, weight_of}
use Rattle.walk_rules.specs.Potentials.{FallsAlong}
use Rattle.walk_rules.proofs.Options.{some_of}
use Rattle.walk_rules.proofs.Walking.{falls_along_walk}
use Rattle.search_queue.specs.Keys.{key_at}
use Rattle.alt_search.specs.Progress.{reach_at, IsOrdered, IsUnderway, IsLeastOpen}
use Rattle.alt_search.proofs.Frontier.{frontier}

module _ {network : Network} {bound : ℕ → Option ℕ} {start target settled least node : ℕ} {reached : List (Option Reach)} {keys : List (Option ℕ)} (w : IsUnderway network bound start target settled reached keys) (o : IsOrdered network bound least reached keys node []) (f : FallsAlong network bound) where
  -- the least open node is the target, so no walk is lighter
  pub least_at_target : IsLeastOpen keys target → (from : Reach) → reach_at reached target ≡ Some from → (others : List Hop) → IsWalk network start others target → from.weight ≤ weight_of others
  least_at_target open_target from r others walk =
      let key = open_target.key in
      let q = w.tree.queued target key open_target.key_is in
      let same : q.0 ≡ from = cc in
      let weighs = ap (λ (r : Reach). r.weight) same in
      let x = falls_along_walk network bound f others start target walk q.1 q.3 in
      let begin = w.start_known x.0 x.1 in
      elim (frontier w.tree o f others start target q.1 begin.0 walk q.3 begin.1) [
        | inl h ↦ omega (arith, open_target.least h.node h.key h.key_is)
        | inr h ↦ absurd (w.target_open h.reach h.settled)
      ]

  -- nothing is open and the target has a bound, so there is no walk
  pub none_left : IsSome (bound target) → ((v : ℕ) → key_at keys v ≡ None) → (others : List Hop) → IsWalk network start others target → ⊥
  none_left bounded n others walk =
      let y = some_of (bound target) bounded in
      let x = falls_along_walk network bound f others start target walk y.0 y.1 in
      let begin = w.start_known x.0 x.1 in
      elim (frontier w.tree o f others start target y.0 begin.0 walk y.1 begin.1) [
        | inl h ↦ let a = n h.node in let b = h.key_is in cc
        | inr h ↦ w.target_open h.reach h.settled
      ]
