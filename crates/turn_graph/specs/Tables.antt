-- Tables of restrictions: at each tower those that count there.
use Rattle.std.specs.Prelude.{◌≡◌, ◌↔◌, ℕ, ℤ, ◌<◌, ◌==◌, Bool, true, false, ◌&&◌, ◌||◌, not, List, [], length, slice_index_or, Contains}
use Rattle.std.specs.Ordering.{int_eq}
use Rattle.std.specs.List.{list_any}
use Rattle.gh_base.specs.declared.edges.DirEdge.{DirEdge}
use Rattle.base_graph.specs.Graphs.{Graph, same_side}
use Rattle.turn_graph.specs.declared.turn.Turn.{Turn}
use Rattle.turn_graph.specs.Restrictions.{Streets, end_of, way_of, CountsAt}

-- the id of the way of each edge, and for each tower restrictions; all by number
pub record Table : Type 0 where
  pub ways : List ℤ
  pub rows : List (List Turn)

-- the restrictions of a tower
abbrev pub row_at : Table → ℕ → List Turn
row_at table tower = slice_index_or table.rows tower []

-- a table for a graph has a way for each edge, and restrictions for each tower
pub record IsFor (graph : Graph) (table : Table) : Type 0 where
  pub ways : length table.ways ≡ length graph.edges
  pub rows : length table.rows ≡ length graph.places

-- the roads that a table is for: a graph whose towers have these ids
abbrev pub streets_for : Graph → List ℤ → Table → Streets
streets_for graph ids table = record { graph = graph; ids = ids; ways = table.ways }

-- a table of restrictions over roads: at each tower those that count there, and no other
pub record IsTableOf (streets : Streets) (turns : List Turn) (table : Table) : Type 0 where
  pub ways : table.ways ≡ streets.ways
  pub rows : length table.rows ≡ length streets.graph.places
  pub each : (tower : ℕ) (turn : Turn) → tower < length streets.graph.places →
      Contains (row_at table tower) turn ↔ (Contains turns turn × CountsAt streets turn tower)

-- the two directions of one edge
abbrev pub are_opposite : DirEdge → DirEdge → Bool
are_opposite a b = a.edge.0 == b.edge.0 && not (same_side a.reverse b.reverse)

-- whether a restriction doesn't let go on from one way to another
abbrev pub bans_into : Bool → List ℤ → Turn → DirEdge → DirEdge → Bool
bans_into false ways turn a b = int_eq (way_of ways b) turn.to && (not (int_eq turn.from turn.to) || are_opposite a b)
bans_into true ways turn a b = not (int_eq (way_of ways b) turn.to)

-- whether a restriction that stands where a directed edge ends bans a turn from it to another
abbrev pub bans : List ℤ → DirEdge → DirEdge → Turn → Bool
bans ways a b turn = int_eq (way_of ways a) turn.from && bans_into turn.only ways turn a b

-- whether the table bans a turn
abbrev pub is_banned : Graph → Table → DirEdge → DirEdge → Bool
is_banned graph table a b = list_any (bans table.ways a b) (row_at table (end_of graph a))
