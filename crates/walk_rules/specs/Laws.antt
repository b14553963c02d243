-- Laws of walks, each a statement of its own.
use Rattle.std.specs.Prelude.{◌≡◌, ⊤, ℕ, ◌<◌, ◌≤◌, Bool, true, Option, Some, IsSome, List}
use Rattle.gh_base.specs.declared.edges.Hop.{Hop}
use Rattle.gh_base.specs.Networks.{Network, LeadsToNodes}
use Rattle.walk_rules.specs.Walks.{IsWalk, weight_of, IsLeast, IsLeastWeight, NoWalk, IsAtMostEachWalk, AreTurned}
use Rattle.walk_rules.specs.Potentials.{IsWithin, FallsAlong, RisesAlong, IsFeasible}
use Rattle.walk_rules.specs.Distances.{IsReach, IsDistance, IsLabel}
use Rattle.walk_rules.specs.Starts.{count_below, IsCandidate, StartsWithin, StartsAtAll}
use Rattle.walk_rules.specs.Evidence.{IsEvidence, IsClosed, IsShownLeast, IsShownNone, TellsLeast}

-- two least walks between the same nodes weigh the same
abbrev pub LeastWalksWeighTheSame : Type 0
LeastWalksWeighTheSame = (network : Network) (from to : ℕ) (first second : List Hop) →
    IsLeast network from first to → IsLeast network from second to → weight_of first ≡ weight_of second

-- there is one least weight
abbrev pub OneLeastWeight : Type 0
OneLeastWeight = (network : Network) (from to first second : ℕ) →
    IsLeastWeight network from to first → IsLeastWeight network from to second → first ≡ second

-- along a walk a bound that falls along each hop falls by no more than the walk's weight
abbrev pub FallsAlongWalks : Type 0
FallsAlongWalks = (network : Network) (bound : ℕ → Option ℕ) → FallsAlong network bound →
    (from to : ℕ) (hops : List Hop) → IsWalk network from hops to → IsWithin (weight_of hops) (bound from) (bound to)

-- along a walk labels that rise along each hop rise by no more than the walk's weight
abbrev pub RisesAlongWalks : Type 0
RisesAlongWalks = (network : Network) (label : ℕ → Option ℕ) → RisesAlong network label →
    (from to : ℕ) (hops : List Hop) → IsWalk network from hops to → IsWithin (weight_of hops) (label to) (label from)

-- a feasible bound is there, and no more than the weight, wherever a walk leads to the target
abbrev pub FeasibleBoundsAreBelow : Type 0
FeasibleBoundsAreBelow = (network : Network) (bound : ℕ → Option ℕ) (target : ℕ) → IsFeasible network bound target →
    (from : ℕ) (hops : List Hop) → IsWalk network from hops target → (x : ℕ) × (bound from ≡ Some x) × (x ≤ weight_of hops)

-- a walk ends at a node
abbrev pub WalksStayWithin : Type 0
WalksStayWithin = (network : Network) → LeadsToNodes network →
    (from to : ℕ) (hops : List Hop) → from < network.nodes → IsWalk network from hops to → to < network.nodes

-- labels that are evidence show that no walk weighs less
abbrev pub EvidenceShowsLeast : Type 0
EvidenceShowsLeast = (network : Network) (label : ℕ → Option ℕ) (start target weight : ℕ) →
    IsEvidence network label start target weight → IsAtMostEachWalk network start target weight

-- a closed set shows that there is no walk
abbrev pub ClosedSetsShowNoWalk : Type 0
ClosedSetsShowNoWalk = (network : Network) (has : ℕ → Bool) (start target : ℕ) →
    IsClosed network has start target → NoWalk network start target

-- where labels show that no walk weighs less, none does
abbrev pub ShownLeastIsLeast : Type 0
ShownLeastIsLeast = (network : Network) (bound : ℕ → Option ℕ) (start target weight : ℕ) →
    IsShownLeast network bound start target weight → IsAtMostEachWalk network start target weight

-- where a set shows that there is no walk, there is none
abbrev pub ShownNoneIsNone : Type 0
ShownNoneIsNone = (network : Network) (bound : ℕ → Option ℕ) (start target : ℕ) →
    IsShownNone network bound start target → NoWalk network start target

-- least weights that are told, and a feasible bound, show that a least walk is least
abbrev pub ToldWeightsShowLeast : Type 0
ToldWeightsShowLeast = (network : Network) (bound told : ℕ → Option ℕ) (start target weight : ℕ) →
    LeadsToNodes network → start < network.nodes → target < network.nodes → IsFeasible network bound target →
    TellsLeast network bound start target told → IsLeastWeight network start target weight →
    IsShownLeast network bound start target weight

-- least weights that are told, and a bound that falls along hops, show that there is no walk where there is none
abbrev pub ToldWeightsShowNone : Type 0
ToldWeightsShowNone = (network : Network) (bound told : ℕ → Option ℕ) (start target : ℕ) →
    LeadsToNodes network → start < network.nodes → target < network.nodes → FallsAlong network bound → IsSome (bound target) →
    TellsLeast network bound start target told → NoWalk network start target →
    IsShownNone network bound start target

-- there is one least weight or none
abbrev pub OneReach : Type 0
OneReach = (network : Network) (from to : ℕ) (first second : Option ℕ) →
    IsReach network from to first → IsReach network from to second → first ≡ second

-- there is one distance
abbrev pub OneDistance : Type 0
OneDistance = (grain : ℕ) (network : Network) (from to : ℕ) (first second : Option ℕ) →
    IsDistance grain network from to first → IsDistance grain network from to second → first ≡ second

-- there is one label
abbrev pub OneLabel : Type 0
OneLabel = (network : Network) (limit from to : ℕ) (first second : Option ℕ) →
    IsLabel network limit from to first → IsLabel network limit from to second → first ≡ second

-- a test of nodes that says which are so
pub record Decides (test : ℕ → Bool) (IsSo : ℕ → Type 0) : Type 0 where
  pub only : (node : ℕ) → test node ≡ true → IsSo node
  pub each : (node : ℕ) → IsSo node → test node ≡ true

-- the starts are no fewer than the candidates that come before the target, and no more than those that don't come behind it
abbrev pub StartsAreBetweenCounts : Type 0
StartsAreBetweenCounts = (network : Network) (bound : ℕ → Option ℕ) (start target weight settled : ℕ) →
    StartsWithin network bound start target weight settled → (before up_to : ℕ → Bool) →
    Decides before (IsCandidate network bound start target (λ sum. sum < weight)) →
    Decides up_to (IsCandidate network bound start target (λ sum. sum ≤ weight)) →
    (count_below before network.nodes ≤ settled) × (settled ≤ count_below up_to network.nodes)

-- where no walk leads to the target, the starts are as many as the candidates
abbrev pub StartsAreAllCandidates : Type 0
StartsAreAllCandidates = (network : Network) (bound : ℕ → Option ℕ) (start target settled : ℕ) →
    StartsAtAll network bound start target settled → (all : ℕ → Bool) →
    Decides all (IsCandidate network bound start target (λ _. ⊤)) → settled ≡ count_below all network.nodes

-- for each walk there is one the other way over the network turned round, of the same weight
abbrev pub WalksTurnRound : Type 0
WalksTurnRound = (out back : Network) → AreTurned out back → (from to : ℕ) (hops : List Hop) →
    IsWalk out from hops to → (others : List Hop) × IsWalk back to others from × (weight_of others ≡ weight_of hops)

-- what is turned round is so from the other side too
abbrev pub TurnedBothWays : Type 0
TurnedBothWays = (out back : Network) → AreTurned out back → AreTurned back out

-- a label over the network turned round is the label the other way
abbrev pub LabelsTurnRound : Type 0
LabelsTurnRound = (out back : Network) → AreTurned out back → (limit from to : ℕ) (label : Option ℕ) →
    IsLabel back limit from to label → IsLabel out limit to from label
