-- The roads of a map, an edge a line.
use Rattle.std.specs.Prelude.{ℕ, ℤ, pos, List, length, map, slice_index_or}
use Rattle.std.specs.List.{range_with_len}
use Rattle.encoded_values.specs.Values.{opening}
use Rattle.base_graph.specs.Graphs.{edge_at, points_of}
use Rattle.plain_map.specs.Printing.{lines_text}
use Rattle.map_import.specs.declared.roads.Roads.{Roads}
use Rattle.road_lines.specs.declared.line.Properties.{Properties}
use Rattle.road_lines.specs.Features.{feature_text}

-- an id by number
abbrev pub id_at : List ℤ → ℕ → ℤ
id_at ids n = slice_index_or ids n (pos 0)

-- of an edge its number, the ids of its way and of its towers, its length in mm, and the limits that its two directions open with, in milli-km/h
abbrev pub properties_of : Roads → List ℤ → ℕ → Properties
properties_of roads ways n =
    let edge = edge_at roads.graph.lists.edges n in record {
      edge = n;
      way = id_at ways n;
      base = id_at roads.ids edge.base.0;
      adjacent = id_at roads.ids edge.adjacent.0;
      mm = edge.mm;
      forward = opening edge.values.forward;
      reverse = opening edge.values.reverse;
    }

-- the line of an edge: its properties, and its points from the base tower to the adjacent one
abbrev pub line_of : Roads → List ℤ → ℕ → List ℕ
line_of roads ways n = feature_text (properties_of roads ways n) (points_of roads.graph.lists n)

-- the numbers of the edges, in order
abbrev pub edge_numbers : Roads → List ℕ
edge_numbers roads = range_with_len 0 (length roads.graph.lists.edges)

-- a line for each edge, in order
abbrev pub lines_of : Roads → List ℤ → List ℕ
lines_of roads ways = lines_text (map (line_of roads ways) (edge_numbers roads))
