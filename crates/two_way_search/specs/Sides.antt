-- What is true of one side of a search between two steps (of this crate alone).
use Rattle.std.specs.Prelude.{◌≡◌, ℕ, ◌+◌, ◌-◌, ◌*◌, ◌^◌, ◌<◌, ◌≤◌, ◌⊎◌, Option, Some, None, IsSome, IfSome, List, [], length, Contains, slice_set}
use Rattle.gh_base.specs.declared.edges.Hop.{Hop}
use Rattle.gh_base.specs.declared.edges.NodeId.{NodeId}
use Rattle.gh_base.specs.Networks.{Network}
use Rattle.walk_rules.specs.Walks.{hops_from, cost}
use Rattle.walk_rules.specs.Potentials.{IsWithin}
use Rattle.walk_rules.specs.Starts.{count_below}
use Rattle.search_queue.specs.Keys.{key_at}
use Rattle.alt_search.specs.declared.reach.Reach.{Reach}
use Rattle.alt_search.specs.declared.reach.Step.{Step}
use Rattle.alt_search.specs.Progress.{reach_at, IsSettled, Extends, IsRelaxed, is_settled}
use Rattle.two_way_search.specs.declared.side.Side.{Side}

-- what is left from a node less what lies behind it, and 2^64 so that nothing is negative; what lies behind is 2^64 where it isn't told
abbrev pub reduced : Option ℕ → Option ℕ → Option ℕ
reduced None passed = None
reduced (Some left) None = Some left
reduced (Some left) (Some passed) = Some (left + (2 ^ 64 - passed))

abbrev pub reduced_by : (ℕ → Option ℕ) → (ℕ → Option ℕ) → ℕ → Option ℕ
reduced_by ahead behind node = reduced (ahead node) (behind node)

-- along each hop with a weight it falls by no more than twice that weight
abbrev pub FallsTwice : Network → (ℕ → Option ℕ) → Type 0
FallsTwice network bound = (node : ℕ) (hop : Hop) → Contains (hops_from network node) hop → IsSome hop.weight →
    IsWithin (2 * cost hop) (bound node) (bound hop.to.0)

-- both bounds of a node are numbers of 64 bits, where they are there
pub record AreSmall (ahead behind : ℕ → Option ℕ) (node : ℕ) : Type 0 where
  pub left : IfSome (ahead node) (λ x. x < 2 ^ 64)
  pub passed : IfSome (behind node) (λ x. x < 2 ^ 64)

-- so they are at each node that was reached
abbrev pub AreAsked : (ℕ → Option ℕ) → (ℕ → Option ℕ) → List (Option Reach) → Type 0
AreAsked ahead behind reached = (node : ℕ) (reach : Reach) → reach_at reached node ≡ Some reach → AreSmall ahead behind node

-- each key is that of a node that was reached: twice its walk's weight and its bound
abbrev pub AreQueued : (ℕ → Option ℕ) → List (Option Reach) → List (Option ℕ) → Type 0
AreQueued bound reached keys = (node key : ℕ) → key_at keys node ≡ Some key → (reach : Reach) × (b : ℕ) × (reach_at reached node ≡ Some reach) × (bound node ≡ Some b) × (key ≡ 2 * reach.weight + b)

-- Each node that was reached has a walk; each key is twice that walk's weight and the node's bound.
pub record IsTree (network : Network) (bound : ℕ → Option ℕ) (end settled : ℕ) (reached : List (Option Reach)) (keys : List (Option ℕ)) : Type 0 where
  pub root : (node : ℕ) (reach : Reach) → reach_at reached node ≡ Some reach → reach.last ≡ None → (node ≡ end) × (reach.weight ≡ 0) × (reach.depth ≡ 0)
  pub branch : (node : ℕ) (reach : Reach) (step : Step) → reach_at reached node ≡ Some reach → reach.last ≡ Some step → Extends network reached keys node reach step
  pub small : (node : ℕ) (reach : Reach) → reach_at reached node ≡ Some reach → (reach.depth ≤ settled) × (reach.weight ≤ 2 ^ 64 * reach.depth)
  pub bounded : (node : ℕ) (reach : Reach) → reach_at reached node ≡ Some reach → IsSome (bound node)
  pub queued : AreQueued bound reached keys

-- Nothing that is still to come is below what is settled.
pub record IsOrdered (network : Network) (bound : ℕ → Option ℕ) (least : ℕ) (reached : List (Option Reach)) (keys : List (Option ℕ)) (node : ℕ) (left : List Hop) : Type 0 where
  pub below : (u : ℕ) (reach : Reach) (b : ℕ) → IsSettled reached keys u reach → bound u ≡ Some b → 2 * reach.weight + b ≤ least
  pub above : (u key : ℕ) → key_at keys u ≡ Some key → least ≤ key
  -- each hop of a settled node was looked at, but for those that are left of the last one
  pub relaxed : (u : ℕ) (reach : Reach) (hop : Hop) → IsSettled reached keys u reach → Contains (hops_from network u) hop → IsSome hop.weight → ((u ≡ node) × Contains left hop) ⊎ IsRelaxed bound reached reach hop

-- one more walk is known, to a node that was not reached or that stays open with a lesser key
pub record Improves (bound : ℕ → Option ℕ) (tail : NodeId) (from : Reach) (hop : Hop) (reached : List (Option Reach)) (keys : List (Option ℕ)) (reached' : List (Option Reach)) (keys' : List (Option ℕ)) : Type 0 where
  pub has_weight : IsSome hop.weight
  pub light : cost hop < 2 ^ 64
  pub b : ℕ
  pub bound_is : bound hop.to.0 ≡ Some b
  pub fresh : key_at keys hop.to.0 ≡ None → reach_at reached hop.to.0 ≡ None
  pub better : (key : ℕ) → key_at keys hop.to.0 ≡ Some key → 2 * (from.weight + cost hop) + b ≤ key
  pub reached_is : reached' ≡ slice_set reached hop.to.0 (Some (record { weight = from.weight + cost hop; depth = from.depth + 1; last = Some (record { tail = tail; hop = hop }) }))
  pub keys_are : keys' ≡ slice_set keys hop.to.0 (Some (2 * (from.weight + cost hop) + b))

-- nothing changes: the hop is barred, its head has no bound or is settled, or the walk known there is no heavier
pub record Passes (bound : ℕ → Option ℕ) (from : Reach) (hop : Hop) (reached : List (Option Reach)) (keys : List (Option ℕ)) (reached' : List (Option Reach)) (keys' : List (Option ℕ)) : Type 0 where
  pub reached_same : reached' ≡ reached
  pub keys_same : keys' ≡ keys
  pub no_use : IsSome hop.weight → (b : ℕ) → bound hop.to.0 ≡ Some b → (IsSome (reach_at reached hop.to.0) × (key_at keys hop.to.0 ≡ None)) ⊎ ((key : ℕ) × (key_at keys hop.to.0 ≡ Some key) × (key ≤ 2 * (from.weight + cost hop) + b))

-- what a hop of a settled node changes
abbrev pub Relaxes : (ℕ → Option ℕ) → NodeId → Reach → Hop → List (Option Reach) → List (Option ℕ) → List (Option Reach) → List (Option ℕ) → Type 0
Relaxes bound tail from hop reached keys reached' keys' = Improves bound tail from hop reached keys reached' keys' ⊎ Passes bound from hop reached keys reached' keys'

-- The tree of a side, the count of what is settled, and its end, which is reached.
pub record IsUnderway (network : Network) (bound : ℕ → Option ℕ) (end settled : ℕ) (reached : List (Option Reach)) (keys : List (Option ℕ)) : Type 0 where
  pub long_reached : length reached ≡ network.nodes
  pub long_keys : length keys ≡ network.nodes
  pub tree : IsTree network bound end settled reached keys
  pub counted : settled ≡ count_below (is_settled reached keys) network.nodes
  pub end_known : (reach : Reach) × (reach_at reached end ≡ Some reach) × (reach.weight ≤ 0)

-- the node with a least key is out of the queue, or nothing is open
abbrev pub IsNext : Option (NodeId × ℕ) → List (Option ℕ) → List (Option ℕ) → Type 0
IsNext None open_keys keys = ((node : ℕ) → key_at open_keys node ≡ None) × (keys ≡ open_keys)
IsNext (Some next) open_keys keys = (key_at open_keys next.0.0 ≡ Some next.1) × ((node key : ℕ) → key_at open_keys node ≡ Some key → next.1 ≤ key) × (keys ≡ slice_set open_keys next.0.0 None)

-- one side between two of its starts, of which the last was at a node with that key
pub record IsSide (network : Network) (ahead behind : ℕ → Option ℕ) (end least : ℕ) (side : Side) : Type 0 where
  pub open_keys : List (Option ℕ)
  pub node : ℕ
  pub underway : IsUnderway network (reduced_by ahead behind) end side.settled side.reached open_keys
  pub ordered : IsOrdered network (reduced_by ahead behind) least side.reached open_keys node []
  pub next : IsNext side.next open_keys side.queue
  pub asked : AreAsked ahead behind side.reached
