-- Roads by what was passed (edge-based graphs, as of OSRM and GraphHopper): a state is a directed edge that was passed, the start, or the target.
use Rattle.std.specs.Prelude.{◌≡◌, ◌≢◌, ℕ, ◌+◌, ◌*◌, ◌/◌, ◌%◌, ◌<◌, ◌==◌, nat_lt, cond, Bool, true, false, not, if◌then◌else◌, Some, List, [], ◌∷◌, ◌++◌, map, filter, length, All, Contains}
use Rattle.gh_base.specs.declared.edges.DirEdge.{DirEdge}
use Rattle.gh_base.specs.declared.edges.Hop.{Hop}
use Rattle.gh_base.specs.Networks.{Network}
use Rattle.walk_rules.specs.Walks.{hops_from}
use Rattle.base_graph.specs.Graphs.{Graph}
use Rattle.turn_graph.specs.declared.turn.Turn.{Turn}
use Rattle.turn_graph.specs.declared.state.State.{State}
use Rattle.turn_graph.specs.declared.state.State.TheVariants.{Start, Passed, Target}
use Rattle.turn_graph.specs.Restrictions.{Streets, end_of}
use Rattle.turn_graph.specs.Tables.{Table, is_banned}
use Rattle.turn_graph.specs.TurnWalks.{IsTurnWalk}

-- the number of having passed a directed edge: twice that of its edge, and one more in reverse
abbrev pub number_of : DirEdge → ℕ
number_of by = 2 * by.edge.0 + cond {A = ℕ} by.reverse 1 0

abbrev pub edge_by : ℕ → DirEdge
edge_by n = record { edge = record { 0 = n / 2 }; reverse = n % 2 == 1 }

-- what a number stands for: with m edges, 2 * m is the start, and what comes behind it the target
abbrev pub state_by : ℕ → ℕ → State
state_by edges n = if nat_lt n (2 * edges) then Passed (edge_by n) else if n == 2 * edges then Start else Target

-- a hop of the base, as a hop to having passed its directed edge
abbrev pub onto_state : Hop → Hop
onto_state hop = record { to = record { 0 = number_of hop.by }; by = hop.by; weight = hop.weight }

-- from a state that ends at the last tower, a hop that weighs nothing leads to the target
abbrev pub arrival : ℕ → DirEdge → Hop
arrival edges by = record { to = record { 0 = 2 * edges + 1 }; by = by; weight = Some 0 }

abbrev pub arrivals : ℕ → DirEdge → Bool → List Hop
arrivals edges by false = []
arrivals edges by true = arrival edges by ∷ []

-- what roads by states are made of: a base network over a graph, which turns are banned, and two towers
pub record Trip : Type 0 where
  pub base : Network
  pub graph : Graph
  pub is_banned : DirEdge → DirEdge → Bool
  pub from : ℕ
  pub to : ℕ

-- the same, by a table
abbrev pub trip_by : Network → Graph → Table → ℕ → ℕ → Trip
trip_by base graph table from to = record { base = base; graph = graph; is_banned = is_banned graph table; from = from; to = to }

-- of so many hops of the base, and an arrival or none, those that leave a state: no turn is banned
abbrev pub left_at : (DirEdge → DirEdge → Bool) → ℕ → State → Bool → List Hop → List Hop
left_at is_banned edges Start arrives hops = map onto_state hops
left_at is_banned edges (Passed by) arrives hops = map onto_state (filter (λ hop. not (is_banned by hop.by)) hops) ++ arrivals edges by arrives
left_at is_banned edges Target arrives hops = []

-- the tower where a state is; at the target nothing is left
abbrev pub tower_at : Trip → State → ℕ
tower_at trip Start = trip.from
tower_at trip (Passed by) = end_of trip.graph by
tower_at trip Target = trip.to

-- whether a state ends at the last tower
abbrev pub is_last : Trip → State → Bool
is_last trip Start = false
is_last trip (Passed by) = end_of trip.graph by == trip.to
is_last trip Target = false

abbrev pub hops_at : Trip → State → List Hop
hops_at trip state = left_at trip.is_banned (length trip.graph.edges) state (is_last trip state) (hops_from trip.base (tower_at trip state))

-- the roads by states: with m edges 2 * m is the start, and 2 * m + 1 the target
abbrev pub by_states : Trip → Network
by_states trip = record { nodes = 2 * length trip.graph.edges + 2; hops = λ n. hops_at trip (state_by (length trip.graph.edges) n) }

abbrev pub start_in : Graph → ℕ
start_in graph = 2 * length graph.edges

abbrev pub target_in : Graph → ℕ
target_in graph = 2 * length graph.edges + 1

-- a hop is over a directed edge of the graph, and leads where that ends
pub record IsOverEdge (graph : Graph) (hop : Hop) : Type 0 where
  pub is_edge : hop.by.edge.0 < length graph.edges
  pub ends : hop.to.0 ≡ end_of graph hop.by

-- a network whose nodes are the graph's towers, and whose hops are directed edges of it
pub record IsOver (graph : Graph) (network : Network) : Type 0 where
  pub nodes : network.nodes ≡ length graph.places
  pub hops : (node : ℕ) (hop : Hop) → Contains (hops_from network node) hop → IsOverEdge graph hop

-- the directed edge that was passed is one of the graph, and the hops to go on with are over such
pub record AreKnown (graph : Graph) (state : State) (hops : List Hop) : Type 0 where
  pub passed : (by : DirEdge) → state ≡ Passed by → by.edge.0 < length graph.edges
  pub next : state ≢ Target → All (λ hop. hop.by.edge.0 < length graph.edges) hops

-- a walk's hops behind a directed edge, by states, and the arrival
abbrev pub onward : ℕ → DirEdge → List Hop → List Hop
onward edges by [] = arrival edges by ∷ []
onward edges by (hop ∷ hops) = onto_state hop ∷ onward edges hop.by hops

-- a walk's hops by states: a hop to having passed each directed edge, and then the arrival
abbrev pub walk_by_states : ℕ → List Hop → List Hop
walk_by_states edges [] = []
walk_by_states edges (hop ∷ hops) = onto_state hop ∷ onward edges hop.by hops

-- hops by states are those of a turn walk
pub record AreOfTurnWalk (network : Network) (streets : Streets) (turns : List Turn) (from to : ℕ) (hops : List Hop) : Type 0 where
  pub walk : List Hop
  pub is_turn_walk : IsTurnWalk network streets turns from walk to
  pub hops_are : hops ≡ walk_by_states (length streets.graph.edges) walk
