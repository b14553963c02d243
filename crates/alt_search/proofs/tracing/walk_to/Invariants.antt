use Rattle.std.proofs.Common.{◌≡◌, ◌+◌, ℕ, Option, Some, List, reverse, length, IsSome}
use Rattle.alt_search.specs.declared.reach.Reach.{Reach}
use Rattle.gh_base.specs.Networks.{Network}
use Rattle.walk_rules.specs.Walks.{IsWalk, weight_of}
use Rattle.alt_search.specs.Progress.{reach_at, depth_of, IsTree}
use Rattle.alt_search.proofs.tracing.walk_to.Given as goal

-- the hops so far, the last of them first, lead on from here
abbrev pub invariant-loop-step : goal.invariant-loop-step
invariant-loop-step l = record {
  here : IsSome (reach_at l.reached l.node.0);
  depth : depth_of (reach_at l.reached l.node.0) + length l.hops.items ≡ depth_of (reach_at l.reached l.fn.target.0);
  walk : (network : Network) (bound : ℕ → Option ℕ) (start settled : ℕ) (keys : List (Option ℕ)) (reach last : Reach) → IsTree network bound start settled l.reached keys → reach_at l.reached l.node.0 ≡ Some reach → reach_at l.reached l.fn.target.0 ≡ Some last → IsWalk network l.node.0 (reverse l.hops.items) l.fn.target.0 × (reach.weight + weight_of (reverse l.hops.items) ≡ last.weight);
}

abbrev pub decreases-loop-step : goal.decreases-loop-step
decreases-loop-step l = depth_of (reach_at l.reached l.node.0)
