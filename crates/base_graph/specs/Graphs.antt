-- A base graph (GraphHopper, "BaseGraph"): towers, edges between them, and what starts at each tower.
use Rattle.std.specs.Prelude.{ℕ, ◌<◌, ◌≤◌, ◌^◌, ◌≡◌, ◌==◌, pos, Bool, true, false, ◌&&◌, if◌then◌else◌, List, [], ◌∷◌, ◌++◌, length, nat_lt, slice_index_or, slice_set, count_by, All}
use Rattle.gh_base.specs.declared.edges.NodeId.{NodeId}
use Rattle.gh_base.specs.declared.edges.DirEdge.{DirEdge}
use Rattle.gh_base.specs.declared.map.Point.{Point}
use Rattle.gh_base.specs.Places.{IsOnEarth}
use Rattle.encoded_values.specs.Values.{TwoValues, Values, AreTwoInRange}

-- an edge: its two ends, its length in mm, the points between the ends in order, and its values
pub record Edge : Type 0 where
  pub base : NodeId
  pub adjacent : NodeId
  pub mm : ℕ
  pub between : List Point
  pub values : TwoValues

-- the places of the towers, the edges, and for each tower the directed edges that start there; all by number
pub record Graph : Type 0 where
  pub places : List Point
  pub edges : List Edge
  pub around : List (List DirEdge)

-- the tower at which an edge starts in a direction
abbrev pub tail : Edge → Bool → ℕ
tail edge reverse = if reverse then edge.adjacent.0 else edge.base.0

-- the tower to which it leads
abbrev pub head : Edge → Bool → ℕ
head edge reverse = if reverse then edge.base.0 else edge.adjacent.0

abbrev pub values_along : Edge → Bool → Values
values_along edge reverse = if reverse then edge.values.reverse else edge.values.forward

-- what stands where no edge does
abbrev pub no_values : Values
no_values = record {
  road_class = 0;
  road_class_link = false;
  roundabout = false;
  surface = 0;
  toll = 0;
  lanes = 0;
  max_speed = 0;
  car_access = false;
  bike_access = false;
  foot_access = false;
  car_speed = 0;
  bike_speed = 0;
  foot_speed = 0;
}

unfoldable pub no_edge : Edge
no_edge = record {
  base = record { 0 = 0 };
  adjacent = record { 0 = 0 };
  mm = 0;
  between = [];
  values = record { forward = no_values; reverse = no_values };
}

-- an edge by number
abbrev pub edge_at : List Edge → ℕ → Edge
edge_at edges n = slice_index_or edges n no_edge

-- a directed edge is one of these and starts at a tower
abbrev pub starts_at : List Edge → ℕ → DirEdge → Bool
starts_at edges node by = nat_lt by.edge.0 (length edges) && tail (edge_at edges by.edge.0) by.reverse == node

abbrev pub same_side : Bool → Bool → Bool
same_side true b = b
same_side false b = if b then false else true

abbrev pub is_same : DirEdge → DirEdge → Bool
is_same a b = a.edge.0 == b.edge.0 && same_side a.reverse b.reverse

-- how often a list has a directed edge
abbrev pub times : DirEdge → List DirEdge → ℕ
times by list = count_by (is_same by) list

abbrev pub around_of : Graph → ℕ → List DirEdge
around_of graph node = slice_index_or graph.around node []

-- a tower's place
abbrev pub place_of : Graph → ℕ → Point
place_of graph node = slice_index_or graph.places node (record { lat = pos 0; lon = pos 0 })

-- the points of an edge in order, both towers among them
abbrev pub points_along : Graph → Edge → List Point
points_along graph edge = place_of graph edge.base.0 ∷ edge.between ++ place_of graph edge.adjacent.0 ∷ []

abbrev pub points_of : Graph → ℕ → List Point
points_of graph n = points_along graph (edge_at graph.edges n)

-- an edge between two of so many towers, over points of the earth, with values in their ranges
pub record IsEdge (towers : ℕ) (edge : Edge) : Type 0 where
  pub base : edge.base.0 < towers
  pub adjacent : edge.adjacent.0 < towers
  pub mm : edge.mm < 2 ^ 32
  pub between : All IsOnEarth edge.between
  pub values : AreTwoInRange edge.values

-- the facts of a base graph: towers stand on the earth, edges join towers, and round each tower stands each directed edge that starts there, once, and no other
pub record IsGraph (graph : Graph) : Type 0 where
  pub few_places : length graph.places ≤ 2000000
  pub few_edges : length graph.edges ≤ 4000000
  pub places : All IsOnEarth graph.places
  pub edges : All (IsEdge (length graph.places)) graph.edges
  pub lists : length graph.around ≡ length graph.places
  pub around : (node : ℕ) (by : DirEdge) → node < length graph.places
      → times by (around_of graph node) ≡ (if starts_at graph.edges node by then 1 else 0)

-- a graph with one more directed edge in a tower's list
abbrev pub put_at : List (List DirEdge) → ℕ → DirEdge → List (List DirEdge)
put_at lists node by = slice_set lists node (slice_index_or lists node [] ++ by ∷ [])

abbrev pub directed : ℕ → Bool → DirEdge
directed edge reverse = record { edge = record { 0 = edge }; reverse = reverse }

-- a graph with one more edge, behind the others
unfoldable pub with_edge : Graph → Edge → Graph
with_edge graph edge = record {
  places = graph.places;
  edges = graph.edges ++ edge ∷ [];
  around = put_at (put_at graph.around edge.base.0 (directed (length graph.edges) false)) edge.adjacent.0 (directed (length graph.edges) true);
}

-- a graph with one more tower, behind the others
unfoldable pub with_place : Graph → Point → Graph
with_place graph place = record {
  places = graph.places ++ place ∷ [];
  edges = graph.edges;
  around = graph.around ++ [] ∷ [];
}
