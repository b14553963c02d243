-- Which line answers a query: a least walk of cars from tower to tower that obeys the turn restrictions of the map.
use Rattle.std.specs.Prelude.{◌≡◌, ◌≢◌, ◌≤◌, ◌<◌, ◌⊎◌, ◌++◌, ℕ, Option, List, [], codes}
use Rattle.std.specs.List.{sum_by}
use Rattle.gh_base.specs.declared.edges.NodeId.{NodeId}
use Rattle.gh_base.specs.declared.edges.Hop.{Hop}
use Rattle.gh_base.specs.Networks.{Network}
use Rattle.walk_rules.specs.Walks.{weight_of}
use Rattle.walk_rules.specs.Starts.{StartsWithin, StartsAtAll}
use Rattle.landmark_prep.specs.Preparations.{Preparation}
use Rattle.turn_graph.specs.declared.turn.Turn.{Turn}
use Rattle.turn_graph.specs.Restrictions.{Streets}
use Rattle.turn_graph.specs.Tables.{Table, streets_for}
use Rattle.turn_graph.specs.TurnWalks.{IsTurnWalk, IsAtMostEachTurnWalk, NoTurnWalk}
use Rattle.turn_graph.specs.States as states
use Rattle.turn_graph.specs.Bounds.{bound_by}
use Rattle.traffic_core.specs.Lands.{Land, IsTower, IsNoTower}
use Rattle.traffic_core.specs.Trips.{edge_mm}
use Rattle.traffic_core.specs.Answers.{greatest_weight}
use Rattle.script_text.specs.declared.reply.Reply.{Reply}
use Rattle.script_text.specs.declared.reply.Reply.TheVariants as reply
use Rattle.script_text.specs.Replies.{reply_text}
use Rattle.map_roads.specs.Opening.{opening_network, IsBoundBetween}
use Rattle.query_lines.specs.declared.queries.TowerQuery.{TowerQuery}

-- what queries run over: roads, the restrictions of their map, a table of those that count, and what guides searches
pub record TurnRoads : Type 0 where
  pub land : Land
  pub turns : List Turn
  pub table : Table
  pub guide : Option Preparation

-- the roads that the restrictions speak of
abbrev pub streets_of : TurnRoads → Streets
streets_of roads = streets_for roads.land.graph roads.land.ids roads.table

-- a walk from tower to tower with no banned turn
abbrev pub IsRoute : TurnRoads → ℕ → ℕ → List Hop → Type 0
IsRoute roads from to hops = IsTurnWalk (opening_network roads.land) (streets_of roads) roads.turns from hops to

-- there is none
abbrev pub NoRoute : TurnRoads → ℕ → ℕ → Type 0
NoRoute roads from to = NoTurnWalk (opening_network roads.land) (streets_of roads) roads.turns from to

-- a walk with no banned turn has this weight, and none has less
pub record IsLeastRoute (roads : TurnRoads) (from to : ℕ) (hops : List Hop) (weight : ℕ) : Type 0 where
  pub route : IsRoute roads from to hops
  pub weight_is : weight_of hops ≡ weight
  pub least : IsAtMostEachTurnWalk (opening_network roads.land) (streets_of roads) roads.turns from to weight

-- the roads as the search sees them, by what was passed
abbrev pub state_network : TurnRoads → ℕ → ℕ → Network
state_network roads from to = states.by_states (states.trip_by (opening_network roads.land) roads.land.graph roads.table from to)

-- it starts at each state that comes before a target of this weight, and at none that comes behind it
abbrev pub StartsForRoute : TurnRoads → (ℕ → Option ℕ) → ℕ → ℕ → ℕ → ℕ → Type 0
StartsForRoute roads bound from to weight settled =
    StartsWithin (state_network roads from to) (bound_by bound roads.land.graph from)
    (states.start_in roads.land.graph) (states.target_in roads.land.graph) weight settled

-- or, where the target is not to be reached, at each state
abbrev pub StartsForNone : TurnRoads → (ℕ → Option ℕ) → ℕ → ℕ → ℕ → Type 0
StartsForNone roads bound from to settled =
    StartsAtAll (state_network roads from to) (bound_by bound roads.land.graph from)
    (states.start_in roads.land.graph) (states.target_in roads.land.graph) settled

-- a least route, whose weight isn't too great, with the mm of its edges
pub record IsRightRoute (roads : TurnRoads) (bound : ℕ → Option ℕ) (from to weight mm settled : ℕ) (hops : List Hop) : Type 0 where
  pub least : IsLeastRoute roads from to hops weight
  pub within : weight ≤ greatest_weight
  pub mm_is : mm ≡ sum_by (edge_mm roads.land.graph) hops
  pub starts : StartsForRoute roads bound from to weight settled

-- the least weight is too great
pub record IsTooHeavy (roads : TurnRoads) (from to weight : ℕ) : Type 0 where
  pub hops : List Hop
  pub least : IsLeastRoute roads from to hops weight
  pub over : greatest_weight < weight

-- which reply is right between two towers, where a search looks ahead by a bound: no route exactly where there is none, else a least one unless it weighs too much
abbrev pub IsRightBy : TurnRoads → (ℕ → Option ℕ) → ℕ → ℕ → Reply → Type 0
IsRightBy roads bound from to (reply.NoRoute settled) = NoRoute roads from to × StartsForNone roads bound from to settled
IsRightBy roads bound from to (reply.Overflow weight) = IsTooHeavy roads from to weight
IsRightBy roads bound from to (reply.Route weight mm settled hops) = IsRightRoute roads bound from to weight mm settled hops
IsRightBy roads bound from to other = ⊥

-- between two towers that aren't one: by the bound that guides a search there
pub record IsRightApart (roads : TurnRoads) (from to : NodeId) (said : Reply) : Type 0 where
  pub apart : from.0 ≢ to.0
  pub bound : ℕ → Option ℕ
  pub bound_is : IsBoundBetween roads.land from to roads.guide bound
  pub right : IsRightBy roads bound from.0 to.0 said

-- from a tower to itself nothing is passed
pub record IsRightHere (from to : NodeId) (said : Reply) : Type 0 where
  pub here : from.0 ≡ to.0
  pub said_is : said ≡ reply.Route 0 0 0 []

-- what is right between two towers
abbrev pub IsRightTo : TurnRoads → NodeId → NodeId → Reply → Type 0
IsRightTo roads from to said = IsRightHere from to said ⊎ IsRightApart roads from to said

-- a tower of the first id, and no tower of the second
pub record IsMissingEnd (land : Land) (query : TowerQuery) (said : Reply) : Type 0 where
  pub from : ℕ
  pub from_is : IsTower land query.from from
  pub to_is : IsNoTower land query.to
  pub said_is : said ≡ reply.NoNode query.to

-- both ids are of towers, and the reply is right between these
pub record IsRightBetween (roads : TurnRoads) (query : TowerQuery) (said : Reply) : Type 0 where
  pub from : NodeId
  pub to : NodeId
  pub from_is : IsTower roads.land query.from from.0
  pub to_is : IsTower roads.land query.to to.0
  pub right : IsRightTo roads from to said

-- which reply answers a query: that the first id is no tower's, or the second is none, or what is right between the two
abbrev pub IsRight : TurnRoads → TowerQuery → Reply → Type 0
IsRight roads query said =
    (IsNoTower roads.land query.from × (said ≡ reply.NoNode query.from))
    ⊎ IsMissingEnd roads.land query said ⊎ IsRightBetween roads query said

-- which line answers it: the text of such a reply, and a newline
pub record IsLineOf (roads : TurnRoads) (query : TowerQuery) (line : List ℕ) : Type 0 where
  pub said : Reply
  pub right : IsRight roads query said
  pub text_is : line ≡ reply_text said ++ codes "\n"
