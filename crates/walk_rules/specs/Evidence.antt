-- What labels and closed sets show of walks (a dual solution of the shortest path problem).
use Rattle.std.specs.Prelude.{◌≡◌, ℕ, ◌+◌, ◌-◌, ◌<◌, ◌≤◌, ◌⊎◌, ◌↔◌, MatchOption, min, nat_lt, Bool, true, false, Option, Some, None, List, Contains}
use Rattle.gh_base.specs.declared.edges.Hop.{Hop}
use Rattle.gh_base.specs.Networks.{Network}
use Rattle.walk_rules.specs.Walks.{hops_from, IsWalk, weight_of, IsLeastWeight, IsAtMostEachWalk}

-- the head's label is over the tail's plus the weight: never where the tail has none, always where only the head has none
abbrev pub is_over : Option ℕ → ℕ → Option ℕ → Bool
is_over None weight head = false
is_over (Some x) weight None = true
is_over (Some x) weight (Some y) = nat_lt (x + weight) y

-- a hop of this weight violates these labels of its tail and its head; one that is barred violates none
abbrev pub is_violated : Option ℕ → Option ℕ → Option ℕ → Bool
is_violated tail None head = false
is_violated tail (Some weight) head = is_over tail weight head

abbrev pub violates : (ℕ → Option ℕ) → ℕ → Hop → Bool
violates label tail hop = is_violated (label tail) hop.weight (label hop.to.0)

-- labels that show that no walk weighs less: 0 at the start, the weight at the target, and no hop violates them
pub record IsEvidence (network : Network) (label : ℕ → Option ℕ) (start target weight : ℕ) : Type 0 where
  pub at_start : label start ≡ Some 0
  pub at_target : label target ≡ Some weight
  pub along : (node : ℕ) (hop : Hop) → Contains (hops_from network node) hop → violates label node hop ≡ false

-- the lesser of a limit and the least weight of a walk to the node; the limit where there is no walk
pub record IsLesser (network : Network) (start node limit y : ℕ) : Type 0 where
  pub within : y ≤ limit
  pub below : IsAtMostEachWalk network start node y
  pub met : (y ≡ limit) ⊎ ((hops : List Hop) × IsWalk network start hops node × (weight_of hops ≡ y))

-- the evidence label of a node for a least walk of this weight: the lesser of its distance and of what the weight is over its bound; 0 where it has no bound
abbrev pub IsEvidenceLabel : Network → (ℕ → Option ℕ) → ℕ → ℕ → ℕ → Option ℕ → Type 0
IsEvidenceLabel network bound start weight node label =
    MatchOption (bound node) (label ≡ Some 0) (λ left. (y : ℕ) × (label ≡ Some y) × IsLesser network start node (weight - left) y)

-- a hop of this weight leads out, where its tail is in a set of nodes and its head isn't; one that is barred leads nowhere
abbrev pub is_out : Bool → Option ℕ → Bool → Bool
is_out true (Some weight) false = true
is_out tail weight head = false

abbrev pub leads_out : (ℕ → Bool) → ℕ → Hop → Bool
leads_out has tail hop = is_out (has tail) hop.weight (has hop.to.0)

-- a set that shows that there is no walk: it holds the start, not the target, and no hop leads out of it
pub record IsClosed (network : Network) (has : ℕ → Bool) (start target : ℕ) : Type 0 where
  pub at_start : has start ≡ true
  pub at_target : has target ≡ false
  pub along : (node : ℕ) (hop : Hop) → Contains (hops_from network node) hop → leads_out has node hop ≡ false

-- labels show that no walk weighs less: each node has its evidence label for this bound, and no hop violates them
pub record IsShownLeast (network : Network) (bound : ℕ → Option ℕ) (start target weight : ℕ) : Type 0 where
  pub label : ℕ → Option ℕ
  pub each : (node : ℕ) → node < network.nodes → IsEvidenceLabel network bound start weight node (label node)
  pub evidence : IsEvidence network label start target weight

-- a set of nodes shows that there is no walk: those that the start reaches, and those that have no bound; no hop leads out of it
pub record IsShownNone (network : Network) (bound : ℕ → Option ℕ) (start target : ℕ) : Type 0 where
  pub has : ℕ → Bool
  pub each : (node : ℕ) → node < network.nodes → (has node ≡ true) ↔ ((bound node ≡ None) ⊎ ((hops : List Hop) × IsWalk network start hops node))
  pub closed : IsClosed network has start target

-- What is told of weights is true: each weight that is told is the least. Where none is told of a node that has a bound,
-- each walk there is, with the bound, no lighter than some walk to the target.
pub record TellsLeast (network : Network) (bound : ℕ → Option ℕ) (start target : ℕ) (told : ℕ → Option ℕ) : Type 0 where
  pub least : (node weight : ℕ) → told node ≡ Some weight → IsLeastWeight network start node weight
  pub rest : (node left : ℕ) (hops : List Hop) → told node ≡ None → bound node ≡ Some left → IsWalk network start hops node →
      (others : List Hop) × IsWalk network start others target × (weight_of others ≤ weight_of hops + left)

-- a node's label, by its bound and the weight that is told of it: the lesser of that and of what the target's weight is over the bound; 0 with no bound
abbrev pub label_by : Option ℕ → Option ℕ → ℕ → ℕ
label_by None told weight = 0
label_by (Some left) None weight = weight - left
label_by (Some left) (Some told) weight = min told (weight - left)
