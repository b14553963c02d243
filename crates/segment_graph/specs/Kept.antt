-- What a graph is kept in. Private: what is promised stands in `Halves.antt`.
use Rattle.std.specs.Prelude.{◌≡◌, ℕ, ◌≤◌, List, length, slice_range, All}
use Rattle.gh_base.specs.declared.map.Point.{Point}
use Rattle.encoded_values.specs.Values.{TwoValues}
use Rattle.base_graph.specs.Graphs.{Edge}
use Rattle.segment_graph.specs.declared.row.EdgeRow.{EdgeRow}
use Rattle.segment_graph.specs.Halves.{numbered}
use Rattle.segment_graph.specs.Roads.{road_at}
use Rattle.segment_graph.specs.Rows.{row_at}

-- an edge by its row, its values, and the points of all edges
abbrev pub edge_of : List Point → EdgeRow → TwoValues → Edge
edge_of points row values = record {
  base = row.base;
  adjacent = row.adjacent;
  mm = row.mm;
  between = slice_range points row.first_point row.end_point;
  values = values;
}

-- all edges
abbrev pub edges_of : List EdgeRow → List TwoValues → List Point → List Edge
edges_of rows roads points =
    numbered (λ edge. edge_of points (row_at rows edge) (road_at roads edge)) (length rows)

-- the points of a row are among those that are kept
pub record IsLine (points : List Point) (row : EdgeRow) : Type 0 where
  pub order : row.first_point ≤ row.end_point
  pub inside : row.end_point ≤ length points

-- each tower has a head, each edge has values, and its points are kept
pub record AreKept (places : List Point) (heads : List ℕ) (rows : List EdgeRow) (roads : List TwoValues) (points : List Point) : Type 0 where
  pub towers : length heads ≡ length places
  pub values : length roads ≡ length rows
  pub lines : All (IsLine points) rows
