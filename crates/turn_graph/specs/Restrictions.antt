-- Turn restrictions (OSM wiki, "Relation:restriction"): who comes by one way over a node must not go on by another ("no_"), or by no other ("only_").
use Rattle.std.specs.Prelude.{◌≡◌, ◌≢◌, ℕ, ℤ, ◌<◌, pos, Bool, true, false, Some, List, length, slice_get, slice_index_or, Contains}
use Rattle.gh_base.specs.declared.edges.DirEdge.{DirEdge}
use Rattle.base_graph.specs.Graphs.{Graph, edge_at, head, tail}
use Rattle.turn_graph.specs.declared.turn.Turn.{Turn}

-- the roads that restrictions speak of: a graph, by number the id of each tower, and the id of the way of each edge
pub record Streets : Type 0 where
  pub graph : Graph
  pub ids : List ℤ
  pub ways : List ℤ

-- the tower at which a directed edge ends
abbrev pub end_of : Graph → DirEdge → ℕ
end_of graph by = head (edge_at graph.edges by.edge.0) by.reverse

-- the tower at which it starts
abbrev pub start_of : Graph → DirEdge → ℕ
start_of graph by = tail (edge_at graph.edges by.edge.0) by.reverse

-- the id of the way that it is of
abbrev pub way_of : List ℤ → DirEdge → ℤ
way_of ways by = slice_index_or ways by.edge.0 (pos 0)

-- a directed edge of this way ends at the tower
pub record EndsAt (streets : Streets) (way : ℤ) (tower : ℕ) : Type 0 where
  pub by : DirEdge
  pub is_edge : by.edge.0 < length streets.graph.edges
  pub ends : end_of streets.graph by ≡ tower
  pub of_way : way_of streets.ways by ≡ way

-- a directed edge of this way starts at the tower
pub record StartsAt (streets : Streets) (way : ℤ) (tower : ℕ) : Type 0 where
  pub by : DirEdge
  pub is_edge : by.edge.0 < length streets.graph.edges
  pub starts : start_of streets.graph by ≡ tower
  pub of_way : way_of streets.ways by ≡ way

-- a restriction counts at the tower `via`, where a directed edge of `from` ends there and one of `to` starts there
pub record CountsAt (streets : Streets) (turn : Turn) (tower : ℕ) : Type 0 where
  pub via : slice_get streets.ids tower ≡ Some turn.via
  pub from : EndsAt streets turn.from tower
  pub to : StartsAt streets turn.to tower

-- the two directions of one edge
pub record AreOpposite (a b : DirEdge) : Type 0 where
  pub edge : a.edge.0 ≡ b.edge.0
  pub reverse : a.reverse ≢ b.reverse

-- onto a directed edge of the way `to`; and where `to` is `from`, back on the edge by which one came
pub record GoesInto (ways : List ℤ) (turn : Turn) (a b : DirEdge) : Type 0 where
  pub to : way_of ways b ≡ turn.to
  pub back : turn.from ≡ turn.to → AreOpposite a b

-- where a restriction doesn't let go on: into `to`, or with `only` elsewhere
abbrev pub BansInto : Bool → List ℤ → Turn → DirEdge → DirEdge → Type 0
BansInto false ways turn a b = GoesInto ways turn a b
BansInto true ways turn a b = way_of ways b ≢ turn.to

-- the turn from a directed edge to one that starts where it ends is banned by a restriction that counts there and comes from its way
pub record IsBanned (streets : Streets) (turns : List Turn) (a b : DirEdge) : Type 0 where
  pub turn : Turn
  pub listed : Contains turns turn
  pub counts : CountsAt streets turn (end_of streets.graph a)
  pub from : way_of streets.ways a ≡ turn.from
  pub onto : BansInto turn.only streets.ways turn a b
