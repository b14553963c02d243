use Rattle.std.proofs.Common.{◌≡◌, ◌+◌, ℕ, Option, Some, List, length, IsSome}
use Rattle.gh_base.specs.Networks.{Network}
use Rattle.walk_rules.specs.Walks.{IsWalk, weight_of}
use Rattle.alt_search.specs.declared.reach.Reach.{Reach}
use Rattle.alt_search.specs.Progress.{reach_at, depth_of}
use Rattle.walk_rules.specs.Turned.{IsTurned}
use Rattle.two_way_search.specs.Sides.{IsTree}
use Rattle.two_way_search.proofs.joining.walk_over.Given as goal

-- the hops so far lead from the start to this node, and with what is left of its way they weigh no less and no more, and are as many
abbrev pub invariant-loop-step : goal.invariant-loop-step
invariant-loop-step l = record {
  here : IsSome (reach_at l.backward l.at.0);
  walk : (out back : Network) (bound other : ℕ → Option ℕ) (start target settled count : ℕ) (keys rest : List (Option ℕ)) (first there at : Reach) → IsTurned out back → IsTree out bound start settled l.forward keys → IsTree back other target count l.backward rest → reach_at l.forward l.fn.node.0 ≡ Some first → reach_at l.backward l.fn.node.0 ≡ Some there → reach_at l.backward l.at.0 ≡ Some at → IsWalk out start l.hops l.at.0 × (weight_of l.hops + at.weight ≡ first.weight + there.weight) × (length l.hops + at.depth ≡ first.depth + there.depth);
}

abbrev pub decreases-loop-step : goal.decreases-loop-step
decreases-loop-step l = depth_of (reach_at l.backward l.at.0)
