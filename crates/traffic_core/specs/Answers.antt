-- Which answer to a query for a route is right, at any limits of the directed edges.
use Rattle.std.specs.Prelude.{◌≡◌, ℕ, ◌<◌, ◌≤◌, ◌⊎◌, Bool, true, false, Option, Some, List, [], length}
use Rattle.gh_base.specs.declared.edges.DirEdge.{DirEdge}
use Rattle.gh_base.specs.declared.edges.Hop.{Hop}
use Rattle.gh_base.specs.declared.query.Place.{Place}
use Rattle.gh_base.specs.declared.query.Place.TheVariants.{Id, At}
use Rattle.gh_base.specs.declared.query.RouteAnswer.{RouteAnswer}
use Rattle.gh_base.specs.declared.query.RouteAnswer.TheVariants.{NoNode, NoSnap, NoRoute, WeightOverflow, Walk, Labelled}
use Rattle.gh_base.specs.Networks.{Network}
use Rattle.base_graph.specs.Graphs.{Graph}
use Rattle.walk_rules.specs.Walks.{IsWalk, weight_of}
use Rattle.walk_rules.specs.Distances.{label_at}
use Rattle.walk_rules.specs.Starts.{StartsWithin, StartsAtAll}
use Rattle.walk_rules.specs.Evidence.{IsEvidence, IsEvidenceLabel, IsShownLeast, IsShownNone}
use Rattle.model_eval.specs.declared.custom_model.CustomModel.{CustomModel}
use Rattle.traffic_core.specs.declared.query.RouteQuery.{RouteQuery}
use Rattle.traffic_core.specs.declared.spot.Spot.{Spot}
use Rattle.landmark_prep.specs.Preparations.{Preparation}
use Rattle.traffic_core.specs.Trips.{Trip, IsWalkOf, trip_network, trip_start, trip_target, trip_by, mm_between}
use Rattle.traffic_core.specs.Places.{IsSpot, IsNowhere, IsSomewhere}
use Rattle.traffic_core.specs.Lands.{Land, rule_of}
use Rattle.traffic_core.specs.Truth.{IsBoundOf}

-- what a query asks
pub record Asked : Type 0 where
  pub profile : ℕ
  pub model : CustomModel
  pub from : Place
  pub to : Place
  pub labels : Bool

abbrev pub asked : RouteQuery → Asked
asked query = record { profile = query.profile; model = query.model.now; from = query.from; to = query.to; labels = query.labels }

-- the greatest weight in ms that is answered: numbers up to it are exact wherever they are read
abbrev pub greatest_weight : ℕ
greatest_weight = 9007199254740991

-- none of these walks weighs less than this
abbrev pub IsAtMostEach : (List Hop → Type 0) → ℕ → Type 0
IsAtMostEach IsSo weight = (others : List Hop) → IsSo others → weight ≤ weight_of others

-- the least weight of these walks
pub record IsLeastOf (IsSo : List Hop → Type 0) (weight : ℕ) : Type 0 where
  pub hops : List Hop
  pub walk : IsSo hops
  pub weight_is : weight_of hops ≡ weight
  pub least : IsAtMostEach IsSo weight

-- how walks are searched for: over a network, from a start to a target, with a bound on what is left to it
pub record Plan : Type 0 where
  pub network : Network
  pub start : ℕ
  pub target : ℕ
  pub bound : ℕ → Option ℕ

-- a least walk of these, empty from a tower to itself, with its weight, which isn't too great, and its mm; labels that show that none weighs less; and as many starts as its search needs
pub record IsRightWalk (IsSo : List Hop → Type 0) (plan : Plan) (mm_of : List Hop → ℕ) (weight mm settled : ℕ) (hops : List Hop) : Type 0 where
  pub walk : IsSo hops
  pub weight_is : weight_of hops ≡ weight
  pub least : IsAtMostEach IsSo weight
  pub empty : plan.start ≡ plan.target → hops ≡ []
  pub within : weight ≤ greatest_weight
  pub mm_is : mm ≡ mm_of hops
  pub shown : IsShownLeast plan.network plan.bound plan.start plan.target weight
  pub starts : StartsWithin plan.network plan.bound plan.start plan.target weight settled

-- the least weight of these, which isn't too great, and the evidence label of each tower; with labels of the two ends they show that no walk weighs less
pub record AreRightLabels (IsSo : List Hop → Type 0) (plan : Plan) (towers weight : ℕ) (labels : List (Option ℕ)) : Type 0 where
  pub least : IsLeastOf IsSo weight
  pub within : weight ≤ greatest_weight
  pub count : length labels ≡ towers
  pub each : (node : ℕ) → node < towers → IsEvidenceLabel plan.network plan.bound plan.start weight node (label_at labels node)
  pub all : ℕ → Option ℕ
  pub same : (node : ℕ) → node < towers → all node ≡ label_at labels node
  pub evidence : IsEvidence plan.network all plan.start plan.target weight

-- which answer is right among these walks: that there is none, as a set of nodes shows, or a least one unless it weighs too much, or labels where they are asked for
abbrev pub IsRightAmong : (List Hop → Type 0) → Plan → (List Hop → ℕ) → ℕ → Bool → RouteAnswer → Type 0
IsRightAmong IsSo plan mm_of towers labels (NoNode id) = ⊥
IsRightAmong IsSo plan mm_of towers labels (NoSnap point) = ⊥
IsRightAmong IsSo plan mm_of towers labels (NoRoute settled) =
    ((hops : List Hop) → IsSo hops → ⊥) × StartsAtAll plan.network plan.bound plan.start plan.target settled
    × IsShownNone plan.network plan.bound plan.start plan.target
IsRightAmong IsSo plan mm_of towers labels (WeightOverflow weight) = IsLeastOf IsSo weight × (greatest_weight < weight)
IsRightAmong IsSo plan mm_of towers labels (Walk weight mm settled hops) = (labels ≡ false) × IsRightWalk IsSo plan mm_of weight mm settled hops
IsRightAmong IsSo plan mm_of towers labels (Labelled weight list) = (labels ≡ true) × AreRightLabels IsSo plan towers weight list

-- a walk over a network from node to node
abbrev pub IsWalkIn : Network → ℕ → ℕ → List Hop → Type 0
IsWalkIn network start target hops = IsWalk network start hops target

-- the plan over a network
abbrev pub plan_over : Network → (ℕ → Option ℕ) → ℕ → ℕ → Plan
plan_over network bound start target = record { network = network; start = start; target = target; bound = bound }

-- the plan for a trip
abbrev pub plan_of : Trip → (ℕ → Option ℕ) → Plan
plan_of trip bound = plan_over (trip_network trip) bound (trip_start trip) (trip_target trip)

-- which answer is right for a trip between two spots of a graph, where a search looks ahead by a bound
abbrev pub IsRightTrip : Trip → Graph → Spot → Spot → Bool → (ℕ → Option ℕ) → RouteAnswer → Type 0
IsRightTrip trip graph from to labels bound answer =
    IsRightAmong (IsWalkOf trip) (plan_of trip bound)
    (mm_between graph from to) (length graph.places) labels answer

-- the trip of a query between two spots
abbrev pub trip_between : Land → (DirEdge → ℕ) → Asked → Spot → Spot → Trip
trip_between land limits asks from to = trip_by (rule_of land asks.profile asks.model) limits land.graph from to

-- which answer is right between two spots, where a search looks ahead by a bound
abbrev pub IsRightBetween : Land → (DirEdge → ℕ) → (ℕ → Option ℕ) → Asked → Spot → Spot → RouteAnswer → Type 0
IsRightBetween land limits bound asks from to answer =
    IsRightTrip (trip_between land limits asks from to) land.graph from to asks.labels bound answer

-- the answer for a place, the first or the second, that isn't on the roads
abbrev pub missing : Place → ℕ → RouteAnswer
missing (Id id) point = NoNode id
missing (At place) point = NoSnap point

-- the first place isn't on the roads, and the answer says so; or it is, and the second isn't
abbrev pub IsMissing : Land → Asked → RouteAnswer → Type 0
IsMissing land asks answer =
    (IsNowhere land asks.profile asks.from × (answer ≡ missing asks.from 1))
    ⊎ (IsSomewhere land asks.profile asks.from × IsNowhere land asks.profile asks.to × (answer ≡ missing asks.to 2))

-- both places are on the roads, and the answer is right between them, by the bound that guides a search there
pub record IsRightFrom (land : Land) (limits : DirEdge → ℕ) (prep : Option Preparation) (asks : Asked) (answer : RouteAnswer) : Type 0 where
  pub from : Spot
  pub to : Spot
  pub from_is : IsSpot land asks.profile asks.from (Some from)
  pub to_is : IsSpot land asks.profile asks.to (Some to)
  pub bound : ℕ → Option ℕ
  pub bound_is : IsBoundOf land (trip_between land limits asks from to) from to prep bound
  pub right : IsRightBetween land limits bound asks from to answer

-- which answer is right at these limits, with a preparation that guides the search, or with none
abbrev pub IsRightAnswer : Land → (DirEdge → ℕ) → Option Preparation → Asked → RouteAnswer → Type 0
IsRightAnswer land limits prep asks answer = IsMissing land asks answer ⊎ IsRightFrom land limits prep asks answer
