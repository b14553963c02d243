-- Distances, also in whole grains, and labels, which are distances cut at a limit.
use Rattle.std.specs.Prelude.{◌≡◌, ℕ, ◌*◌, ◌/◌, min, Option, List, map, MatchOption, slice_index_or, None}
use Rattle.std.specs.Option.{option_map}
use Rattle.gh_base.specs.declared.edges.Hop.{Hop}
use Rattle.gh_base.specs.Networks.{Network}
use Rattle.walk_rules.specs.Walks.{IsWalk, weight_of, NoWalk, IsLeastWeight, IsAtMostEachWalk}

-- a weight rounded down to whole grains
abbrev pub rounded : ℕ → Option ℕ → Option ℕ
rounded grain weight = option_map (λ w. grain * (w / grain)) weight

abbrev pub rounded_hop : ℕ → Hop → Hop
rounded_hop grain hop = record { to = hop.to; by = hop.by; weight = rounded grain hop.weight }

-- the network with each weight rounded down to whole grains
abbrev pub in_grains : ℕ → Network → Network
in_grains grain base = record { nodes = base.nodes; hops = λ node. map (rounded_hop grain) (base.hops node) }

-- the least weight of a walk from one node to another; none where there is no walk
abbrev pub IsReach : Network → ℕ → ℕ → Option ℕ → Type 0
IsReach network from to weight = MatchOption weight (NoWalk network from to) (λ w. IsLeastWeight network from to w)

-- the same, with each hop's weight rounded down to whole grains
abbrev pub IsDistance : ℕ → Network → ℕ → ℕ → Option ℕ → Type 0
IsDistance grain network from to distance = IsReach (in_grains grain network) from to distance

-- some walk weighs this much, cut at the limit, and none weighs less
pub record IsNearest (network : Network) (limit from to y : ℕ) : Type 0 where
  pub hops : List Hop
  pub walk : IsWalk network from hops to
  pub weight : y ≡ min (weight_of hops) limit
  pub least : IsAtMostEachWalk network from to y

-- the label from one node to another: the distance cut at the limit, none where there is no walk
abbrev pub IsLabel : Network → ℕ → ℕ → ℕ → Option ℕ → Type 0
IsLabel network limit from to label = MatchOption label (NoWalk network from to) (λ y. IsNearest network limit from to y)

abbrev pub AreLabelsFrom : Network → ℕ → ℕ → (ℕ → Option ℕ) → Type 0
AreLabelsFrom network limit from labels = (node : ℕ) → IsLabel network limit from node (labels node)

abbrev pub AreLabelsTo : Network → ℕ → ℕ → (ℕ → Option ℕ) → Type 0
AreLabelsTo network limit to labels = (node : ℕ) → IsLabel network limit node to (labels node)

-- the label that a list has for a node; none past its end
abbrev pub label_at : List (Option ℕ) → ℕ → Option ℕ
label_at labels node = slice_index_or labels node None
