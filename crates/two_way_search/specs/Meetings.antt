-- Where both sides of a search meet (of this crate alone).
use Rattle.std.specs.Prelude.{◌≡◌, ⊤, ℕ, ◌+◌, ◌*◌, ◌^◌, ◌<◌, ◌≤◌, ◌⊎◌, Option, Some, None, IfSome, IsSomeAnd, List}
use Rattle.gh_base.specs.declared.edges.Hop.{Hop}
use Rattle.gh_base.specs.declared.edges.NodeId.{NodeId}
use Rattle.gh_base.specs.Networks.{Network}
use Rattle.walk_rules.specs.Walks.{IsWalk, weight_of}
use Rattle.alt_search.specs.declared.reach.Reach.{Reach}
use Rattle.alt_search.specs.Progress.{reach_at}
use Rattle.two_way_search.specs.declared.meeting.Meeting.{Meeting}
use Rattle.two_way_search.specs.declared.side.Side.{Side}
use Rattle.two_way_search.specs.Sides.{IsSide}

-- the best walk so far weighs no more than any over this node
abbrev pub IsNoHeavier : List (Option Reach) → List (Option Reach) → Option Meeting → ℕ → Type 0
IsNoHeavier reached other met node = (here there : Reach) → reach_at reached node ≡ Some here → reach_at other node ≡ Some there → IsSomeAnd met (λ m. m.weight ≤ here.weight + there.weight)

-- both sides know a walk to the node where the best walk meets, and together they weigh no more than is told
abbrev pub IsFound : List (Option Reach) → List (Option Reach) → Option Meeting → Type 0
IsFound reached other met = IfSome met (λ m. (here : Reach) × (there : Reach) × (reach_at reached m.node.0 ≡ Some here) × (reach_at other m.node.0 ≡ Some there) × (here.weight + there.weight ≤ m.weight))

-- the best walk so far, over a node that both sides reached
pub record IsMet (reached other : List (Option Reach)) (met : Option Meeting) : Type 0 where
  pub best : (node : ℕ) → IsNoHeavier reached other met node
  pub found : IsFound reached other met

-- a walk that isn't known may be lighter than the best: both sides have an open node, and their least keys, each of which has 2^64 in it, are together less than twice the best walk's weight
abbrev pub MayGoOn : Option (NodeId × ℕ) → Option (NodeId × ℕ) → Option Meeting → Type 0
MayGoOn None second met = ⊥
MayGoOn (Some first) None met = ⊥
MayGoOn (Some first) (Some second) None = ⊤
MayGoOn (Some first) (Some second) (Some m) = first.1 + second.1 < 2 * m.weight + 2 ^ 65

-- both sides, and the best walk so far; no walk at all is lighter than what both sides have settled together
pub record AreUnderway (out back : Network) (ahead behind : ℕ → Option ℕ) (start target : ℕ) (forward backward : Side) (met : Option Meeting) : Type 0 where
  pub near : ℕ
  pub far : ℕ
  pub first : IsSide out ahead behind start near forward
  pub second : IsSide back behind ahead target far backward
  pub meets : IsMet forward.reached backward.reached met
  pub within : (hops : List Hop) → IsWalk out start hops target → near + far ≤ 2 * weight_of hops + 2 ^ 65
  pub turns : (forward.settled ≡ backward.settled) ⊎ (forward.settled ≡ backward.settled + 1)
