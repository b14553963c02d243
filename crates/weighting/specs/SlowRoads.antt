-- What a query's model that only slows does to weights (GraphHopper documentation, "Landmarks": a request may only raise
-- weights): under limits that are nowhere above earlier ones, no weight falls below the profile's own of then.
use Rattle.std.specs.Prelude.{◌≡◌, ℕ, ◌<◌, ◌≤◌, length, Option, Some, None, IfSome}
use Rattle.gh_base.specs.declared.edges.DirEdge.{DirEdge}
use Rattle.base_graph.specs.Graphs.{Graph, IsGraph}
use Rattle.walk_rules.specs.Walks.{IsNoFaster, AreTurned}
use Rattle.walk_rules.specs.Turned.{IsTurned}
use Rattle.model_eval.specs.declared.custom_model.CustomModel.{CustomModel}
use Rattle.model_eval.specs.Slowing.{AreStored, IsSlow, low_influence}
use Rattle.weighting.specs.declared.weight_view.Side.{Side}
use Rattle.weighting.specs.Rules.{Rule, alone}
use Rattle.weighting.specs.Weights.{values_at, weight_by}
use Rattle.weighting.specs.Roads.{network_of, network_by, network_back}

-- the query's model has no factor above 1, and its influence of distance isn't below the profile's
pub record OnlySlows (profile query : CustomModel) : Type 0 where
  pub slow : IsSlow query
  pub influence : low_influence profile.distance_influence query.distance_influence ≡ None

-- a rule whose query, if there is one, only slows
abbrev pub IsSlowing : Rule → Type 0
IsSlowing rule = IfSome rule.query (OnlySlows rule.profile)

-- no weight, or one that is there and no less
abbrev pub IsNoneOrAtLeast : Option ℕ → Option ℕ → Type 0
IsNoneOrAtLeast weight base = IfSome weight (λ w. (b : ℕ) × (base ≡ Some b) × (b ≤ w))

-- the values of all directed edges are numbers as they can be stored
abbrev pub HasStored : Graph → Type 0
HasStored graph = (by : DirEdge) → by.edge.0 < length graph.edges → AreStored (values_at graph by)

-- they are in every graph
abbrev pub ValuesAreStored : Type 0
ValuesAreStored = (graph : Graph) → IsGraph graph → HasStored graph

-- no directed edge's limit is above the earlier one
abbrev pub AreNowhereAbove : Graph → (DirEdge → ℕ) → (DirEdge → ℕ) → Type 0
AreNowhereAbove graph limits earlier = (by : DirEdge) → by.edge.0 < length graph.edges → limits by ≤ earlier by

-- under a query that only slows, and at a limit that isn't above an earlier one, a weight is none or at least the profile's own of then
abbrev pub NoWeightFalls : Type 0
NoWeightFalls = (rule : Rule) (graph : Graph) (by : DirEdge) (limit earlier mm : ℕ) → IsSlowing rule →
    AreStored (values_at graph by) → limit ≤ earlier →
    IsNoneOrAtLeast (weight_by rule graph by limit mm) (weight_by (alone rule) graph by earlier mm)

-- so no hop is faster than under the profile alone, on either side
abbrev pub NoHopIsFaster : Type 0
NoHopIsFaster = (side : Side) (rule : Rule) (graph : Graph) (limits earlier : DirEdge → ℕ) → IsSlowing rule →
    IsGraph graph → AreNowhereAbove graph limits earlier →
    IsNoFaster (network_of side (alone rule) earlier graph) (network_of side rule limits graph)

-- the hops of the one side are those of the other, turned round
abbrev pub SidesAreTurned : Type 0
SidesAreTurned = (rule : Rule) (limits : DirEdge → ℕ) (graph : Graph) → IsGraph graph →
    AreTurned (network_by rule limits graph) (network_back rule limits graph)

-- each over the same directed edge
abbrev pub SidesTurnAlongEdges : Type 0
SidesTurnAlongEdges = (rule : Rule) (limits : DirEdge → ℕ) (graph : Graph) → IsGraph graph →
    IsTurned (network_by rule limits graph) (network_back rule limits graph)
