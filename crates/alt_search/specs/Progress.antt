-- What is true between two steps of a search.
use Rattle.std.specs.Prelude.{◌≡◌, ℕ, ◌+◌, ◌*◌, ◌^◌, ◌<◌, ◌≤◌, ◌⊎◌, Bool, true, false, ◌&&◌, not, nat_le, Option, Some, None, is_some, IsSome, List, [], length, Contains, slice_index_or, slice_set}
use Rattle.gh_base.specs.declared.edges.Hop.{Hop}
use Rattle.gh_base.specs.declared.edges.NodeId.{NodeId}
use Rattle.gh_base.specs.Networks.{Network}
use Rattle.walk_rules.specs.Walks.{hops_from, cost}
use Rattle.walk_rules.specs.Potentials.{FallsAlong}
use Rattle.walk_rules.specs.Starts.{count_below}
use Rattle.search_queue.specs.Keys.{key_at}
use Rattle.alt_search.specs.declared.reach.Reach.{Reach}
use Rattle.alt_search.specs.declared.reach.Step.{Step}

-- what is known of a node
abbrev pub reach_at : List (Option Reach) → ℕ → Option Reach
reach_at reached node = slice_index_or reached node None

-- Reached and no longer in the queue.
pub record IsSettled (reached : List (Option Reach)) (keys : List (Option ℕ)) (node : ℕ) (reach : Reach) : Type 0 where
  pub reach_is : reach_at reached node ≡ Some reach
  pub no_key : key_at keys node ≡ None

-- The walk to a node is that to a settled one and one hop more.
pub record Extends (network : Network) (reached : List (Option Reach)) (keys : List (Option ℕ)) (node : ℕ) (reach : Reach) (step : Step) : Type 0 where
  pub hop : Contains (hops_from network step.tail.0) step.hop
  pub has_weight : IsSome step.hop.weight
  pub head : step.hop.to.0 ≡ node
  pub before : Reach
  pub settled : IsSettled reached keys step.tail.0 before
  pub weight : reach.weight ≡ before.weight + cost step.hop
  pub depth : reach.depth ≡ before.depth + 1

-- each key is that of a node that was reached: its walk's weight and its bound
abbrev pub AreQueued : (ℕ → Option ℕ) → List (Option Reach) → List (Option ℕ) → Type 0
AreQueued bound reached keys = (node key : ℕ) → key_at keys node ≡ Some key → (reach : Reach) × (b : ℕ) × (reach_at reached node ≡ Some reach) × (bound node ≡ Some b) × (key ≡ reach.weight + b)

-- Each node that was reached has a walk; each key is that walk's weight and the node's bound.
pub record IsTree (network : Network) (bound : ℕ → Option ℕ) (start settled : ℕ) (reached : List (Option Reach)) (keys : List (Option ℕ)) : Type 0 where
  pub root : (node : ℕ) (reach : Reach) → reach_at reached node ≡ Some reach → reach.last ≡ None → (node ≡ start) × (reach.weight ≡ 0) × (reach.depth ≡ 0)
  pub branch : (node : ℕ) (reach : Reach) (step : Step) → reach_at reached node ≡ Some reach → reach.last ≡ Some step → Extends network reached keys node reach step
  pub small : (node : ℕ) (reach : Reach) → reach_at reached node ≡ Some reach → (reach.depth ≤ settled) × (reach.weight ≤ 2 ^ 64 * reach.depth)
  pub bounded : (node : ℕ) (reach : Reach) → reach_at reached node ≡ Some reach → IsSome (bound node)
  pub queued : AreQueued bound reached keys

-- whether a walk is there and weighs no more than this
abbrev pub is_within : ℕ → Option Reach → Bool
is_within weight None = false
is_within weight (Some reach) = nat_le reach.weight weight

-- whether such a walk is known to a node
abbrev pub is_known_within : List (Option Reach) → ℕ → ℕ → Bool
is_known_within reached weight node = is_within weight (reach_at reached node)

-- how many hops a walk has, if there is one
abbrev pub depth_of : Option Reach → ℕ
depth_of None = 0
depth_of (Some reach) = reach.depth

-- The node before the last hop was reached too, by a walk of one hop less.
abbrev pub IsChain : List (Option Reach) → Type 0
IsChain reached = (node : ℕ) (reach : Reach) (step : Step) → reach_at reached node ≡ Some reach → reach.last ≡ Some step → (before : Reach) × (reach_at reached step.tail.0 ≡ Some before) × (reach.depth ≡ before.depth + 1)

-- The search knows of a walk over this hop, or of one that is no heavier.
abbrev pub IsRelaxed : (ℕ → Option ℕ) → List (Option Reach) → Reach → Hop → Type 0
IsRelaxed bound reached from hop = (b : ℕ) → bound hop.to.0 ≡ Some b → (reach : Reach) × (reach_at reached hop.to.0 ≡ Some reach) × (reach.weight ≤ from.weight + cost hop)

-- Where the bounds fall along hops: nothing that is still to come is below what is settled.
pub record IsOrdered (network : Network) (bound : ℕ → Option ℕ) (least : ℕ) (reached : List (Option Reach)) (keys : List (Option ℕ)) (node : ℕ) (left : List Hop) : Type 0 where
  pub below : (u : ℕ) (reach : Reach) (b : ℕ) → IsSettled reached keys u reach → bound u ≡ Some b → reach.weight + b ≤ least
  pub above : (u key : ℕ) → key_at keys u ≡ Some key → least ≤ key
  -- each hop of a settled node was looked at, but for those that are left of the last one
  pub relaxed : (u : ℕ) (reach : Reach) (hop : Hop) → IsSettled reached keys u reach → Contains (hops_from network u) hop → IsSome hop.weight → ((u ≡ node) × Contains left hop) ⊎ IsRelaxed bound reached reach hop

-- one more walk is known, to a node that was not reached or that stays open with a lesser key
pub record Improves (bound : ℕ → Option ℕ) (tail : NodeId) (from : Reach) (hop : Hop) (reached : List (Option Reach)) (keys : List (Option ℕ)) (reached' : List (Option Reach)) (keys' : List (Option ℕ)) : Type 0 where
  pub has_weight : IsSome hop.weight
  pub light : cost hop < 2 ^ 64
  pub b : ℕ
  pub bound_is : bound hop.to.0 ≡ Some b
  pub fresh : key_at keys hop.to.0 ≡ None → reach_at reached hop.to.0 ≡ None
  pub better : (key : ℕ) → key_at keys hop.to.0 ≡ Some key → from.weight + cost hop + b ≤ key
  pub reached_is : reached' ≡ slice_set reached hop.to.0 (Some (record { weight = from.weight + cost hop; depth = from.depth + 1; last = Some (record { tail = tail; hop = hop }) }))
  pub keys_are : keys' ≡ slice_set keys hop.to.0 (Some (from.weight + cost hop + b))

-- nothing changes: the hop is barred, its head has no bound or is settled, or the walk known there is no heavier
pub record Passes (bound : ℕ → Option ℕ) (from : Reach) (hop : Hop) (reached : List (Option Reach)) (keys : List (Option ℕ)) (reached' : List (Option Reach)) (keys' : List (Option ℕ)) : Type 0 where
  pub reached_same : reached' ≡ reached
  pub keys_same : keys' ≡ keys
  pub no_use : IsSome hop.weight → (b : ℕ) → bound hop.to.0 ≡ Some b → (IsSome (reach_at reached hop.to.0) × (key_at keys hop.to.0 ≡ None)) ⊎ ((key : ℕ) × (key_at keys hop.to.0 ≡ Some key) × (key ≤ from.weight + cost hop + b))

-- what a hop of a settled node changes
abbrev pub Relaxes : (ℕ → Option ℕ) → NodeId → Reach → Hop → List (Option Reach) → List (Option ℕ) → List (Option Reach) → List (Option ℕ) → Type 0
Relaxes bound tail from hop reached keys reached' keys' = Improves bound tail from hop reached keys reached' keys' ⊎ Passes bound from hop reached keys reached' keys'

-- the test for it
abbrev pub is_settled : List (Option Reach) → List (Option ℕ) → ℕ → Bool
is_settled reached keys node = is_some (reach_at reached node) && not (is_some (key_at keys node))

-- A search between two nodes: no more than the tree, the count of what is settled, the target still open, and the start reached.
pub record IsUnderway (network : Network) (bound : ℕ → Option ℕ) (start target settled : ℕ) (reached : List (Option Reach)) (keys : List (Option ℕ)) : Type 0 where
  pub long_reached : length reached ≡ network.nodes
  pub long_keys : length keys ≡ network.nodes
  pub tree : IsTree network bound start settled reached keys
  pub counted : settled ≡ count_below (is_settled reached keys) (network.nodes)
  pub target_open : (reach : Reach) → IsSettled reached keys target reach → ⊥
  pub start_known : (b : ℕ) → bound start ≡ Some b → (reach : Reach) × (reach_at reached start ≡ Some reach) × (reach.weight ≤ 0)

-- the least of all keys is that of the node
pub record IsLeastOpen (keys : List (Option ℕ)) (node : ℕ) : Type 0 where
  pub key : ℕ
  pub key_is : key_at keys node ≡ Some key
  pub least : (other k : ℕ) → key_at keys other ≡ Some k → key ≤ k

-- nothing that is still to come is below what is settled, between two nodes
pub record IsInOrder (network : Network) (bound : ℕ → Option ℕ) (reached : List (Option Reach)) (keys : List (Option ℕ)) : Type 0 where
  pub least : ℕ
  pub node : ℕ
  pub ordered : IsOrdered network bound least reached keys node []

-- where it stops, a search took the target as the least of what was open, or nothing was open
abbrev pub Stops : Bool → ℕ → List (Option ℕ) → List (Option ℕ) → Type 0
Stops true target open_keys keys = IsLeastOpen open_keys target × (keys ≡ slice_set open_keys target None)
Stops false target open_keys keys = ((node : ℕ) → key_at open_keys node ≡ None) × (keys ≡ open_keys)

-- how a search stands where it stops, by what was open before its last step
pub record IsDone (network : Network) (bound : ℕ → Option ℕ) (start target settled : ℕ) (reached : List (Option Reach)) (keys : List (Option ℕ)) (at_target : Bool) : Type 0 where
  pub open_keys : List (Option ℕ)
  pub underway : IsUnderway network bound start target settled reached open_keys
  pub in_order : FallsAlong network bound → IsInOrder network bound reached open_keys
  pub stops : Stops at_target target open_keys keys
