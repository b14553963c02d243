-- Trips from spot to spot: the pieces of edges that lead out of one and into the other, and the walks between them.
use Rattle.std.specs.Prelude.{ℕ, ◌+◌, ◌-◌, ◌==◌, nat_le, Bool, true, false, if◌then◌else◌, Option, Some, None, List, [], ◌∷◌, length, slice_get}
use Rattle.std.specs.List.{sum_by}
use Rattle.gh_base.specs.declared.edges.EdgeId.{EdgeId}
use Rattle.gh_base.specs.declared.edges.DirEdge.{DirEdge}
use Rattle.gh_base.specs.declared.edges.Hop.{Hop}
use Rattle.gh_base.specs.declared.edges.Arrival.{Arrival}
use Rattle.gh_base.specs.Networks.{Network}
use Rattle.base_graph.specs.Graphs.{Graph, Edge, edge_at, head, tail}
use Rattle.query_graph.specs.declared.ends.Leave.{Leave}
use Rattle.query_graph.specs.declared.ends.Leave.TheVariants.{Node as FromNode, Inside as FromInside}
use Rattle.query_graph.specs.declared.ends.Reach.{Reach}
use Rattle.query_graph.specs.declared.ends.Reach.TheVariants.{Node as ToNode, Inside as ToInside}
use Rattle.query_graph.specs.Ends.{start_in, target_in}
use Rattle.query_graph.specs.Joined.{joined}
use Rattle.query_graph.specs.Between.{IsBetween}
use Rattle.weighting.specs.Rules.{Rule}
use Rattle.weighting.specs.Weights.{weight_by}
use Rattle.weighting.specs.Roads.{network_by}
use Rattle.traffic_core.specs.declared.spot.Spot.{Spot}
use Rattle.traffic_core.specs.declared.spot.Spot.TheVariants.{Tower, Inside}

abbrev pub along : EdgeId → Bool → DirEdge
along edge reverse = record { edge = edge; reverse = reverse }

-- the mm of an edge that lie before a point of it, in a direction
abbrev pub mm_before : Edge → ℕ → Bool → ℕ
mm_before edge mm reverse = if reverse then edge.mm - mm else mm

-- the mm that lie behind it
abbrev pub mm_behind : Edge → ℕ → Bool → ℕ
mm_behind edge mm reverse = if reverse then mm else edge.mm - mm

-- the roads with their hops, and the pieces that lead out of the start, into the target, and straight from the one to the other
pub record Trip : Type 0 where
  pub base : Network
  pub from : Leave
  pub to : Reach
  pub direct : List (Option Hop)

module _ (rule : Rule) (limits : DirEdge → ℕ) (graph : Graph) where
  -- so many mm of a directed edge at its limit; none where it may not be passed
  abbrev pub weigh : DirEdge → ℕ → Option ℕ
  weigh by mm = weight_by rule graph by (limits by) mm

  -- a piece from a point inside an edge to the end of that edge
  abbrev pub way_out : EdgeId → ℕ → Bool → Hop
  way_out id mm reverse = record {
    to = record { 0 = head (edge_at graph.edges id.0) reverse };
    by = along id reverse;
    weight = weigh (along id reverse) (mm_behind (edge_at graph.edges id.0) mm reverse);
  }

  -- a piece from the end at which an edge starts to a point inside it
  abbrev pub way_in : EdgeId → ℕ → Bool → Arrival
  way_in id mm reverse = record {
    at = record { 0 = tail (edge_at graph.edges id.0) reverse };
    by = along id reverse;
    weight = weigh (along id reverse) (mm_before (edge_at graph.edges id.0) mm reverse);
  }

  -- out of a spot
  abbrev pub leave_from : Spot → Leave
  leave_from (Tower node) = FromNode node
  leave_from (Inside id mm) = FromInside (way_out id mm false ∷ way_out id mm true ∷ [])

  -- into a spot
  abbrev pub reach_to : Spot → Reach
  reach_to (Tower node) = ToNode node
  reach_to (Inside id mm) = ToInside (way_in id mm false ∷ way_in id mm true ∷ [])

  -- a piece straight to the target
  abbrev pub straight_hop : EdgeId → Bool → ℕ → Hop
  straight_hop id reverse mm = record {
    to = record { 0 = length graph.places + 1 };
    by = along id reverse;
    weight = weigh (along id reverse) mm;
  }

  -- that over what lies between two points of an edge, where the first is no farther from its base than the second
  abbrev pub straight : EdgeId → Bool → ℕ → ℕ → Option Hop
  straight id reverse near far = if nat_le near far then Some (straight_hop id reverse (far - near)) else None

  -- the direct pieces from x to y inside one edge: forward where y isn't nearer its base, in reverse where it isn't farther
  abbrev pub direct_between : Spot → Spot → List (Option Hop)
  direct_between (Inside e x) (Inside f y) =
      if e.0 == f.0 then straight e false x y ∷ straight e true y x ∷ [] else None ∷ None ∷ []
  direct_between from to = None ∷ None ∷ []

  -- from spot to spot over the roads as the rule weighs them at the limits
  abbrev pub trip_by : Spot → Spot → Trip
  trip_by from to = record {
    base = network_by rule limits graph;
    from = leave_from from;
    to = reach_to to;
    direct = direct_between from to;
  }

-- a walk of a trip: over whole edges, but for a first and a last piece, or one direct piece
abbrev pub IsWalkOf : Trip → List Hop → Type 0
IsWalkOf trip hops = IsBetween trip.base trip.from trip.to trip.direct hops

-- a trip as a search sees it, with a node more for each end
abbrev pub trip_network : Trip → Network
trip_network trip = joined trip.base trip.from trip.to trip.direct

abbrev pub trip_start : Trip → ℕ
trip_start trip = start_in trip.base trip.from

abbrev pub trip_target : Trip → ℕ
trip_target trip = target_in trip.base trip.to

-- the mm of the edge that a hop is over
abbrev pub edge_mm : Graph → Hop → ℕ
edge_mm graph hop = (edge_at graph.edges hop.by.edge.0).mm

-- of a walk's first edge, the mm that lie before the start
abbrev pub mm_before_first : Edge → ℕ → Option Hop → ℕ
mm_before_first edge mm None = 0
mm_before_first edge mm (Some first) = mm_before edge mm first.by.reverse

abbrev pub mm_before_start : Graph → Spot → List Hop → ℕ
mm_before_start graph (Tower node) hops = 0
mm_before_start graph (Inside id mm) hops = mm_before_first (edge_at graph.edges id.0) mm (slice_get hops 0)

-- of its last edge, the mm that lie behind the target
abbrev pub mm_behind_last : Edge → ℕ → Option Hop → ℕ
mm_behind_last edge mm None = 0
mm_behind_last edge mm (Some last) = mm_behind edge mm last.by.reverse

abbrev pub mm_behind_target : Graph → Spot → List Hop → ℕ
mm_behind_target graph (Tower node) hops = 0
mm_behind_target graph (Inside id mm) hops = mm_behind_last (edge_at graph.edges id.0) mm (slice_get hops (length hops - 1))

-- the mm of a walk: those of its edges, but for what lies before the start and behind the target
abbrev pub mm_between : Graph → Spot → Spot → List Hop → ℕ
mm_between graph from to hops = sum_by (edge_mm graph) hops - mm_before_start graph from hops - mm_behind_target graph to hops

-- the node that stands for a start among so many towers and two nodes more
abbrev pub start_for : Spot → ℕ → ℕ
start_for (Tower node) towers = node.0
start_for (Inside id mm) towers = towers

-- and for a target
abbrev pub target_for : Spot → ℕ → ℕ
target_for (Tower node) towers = node.0
target_for (Inside id mm) towers = towers + 1
