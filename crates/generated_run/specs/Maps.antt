-- The map of a size N: N rows and N columns of nodes, 0.01 degree apart, and a way along each row and each column.
use Rattle.std.specs.Prelude.{ℕ, ◌+◌, ◌-◌, ◌*◌, ◌/◌, ◌%◌, ◌==◌, nat_lt, if◌then◌else◌, ℤ, pos, List, [], ◌∷◌, map, codes}
use Rattle.std.specs.List.{range_with_len}
use Rattle.gh_base.specs.declared.map.OsmMap.{OsmMap}
use Rattle.gh_base.specs.declared.map.OsmNode.{OsmNode}
use Rattle.gh_base.specs.declared.map.OsmWay.{OsmWay}
use Rattle.generated_run.specs.Draws.{draw}

-- the node of a row and a column, each counted from 0: nodes are numbered row by row, from 1
abbrev pub id_at : ℕ → ℕ → ℕ → ℤ
id_at size row column = pos (row * size + column + 1)

-- the node of a number from 0: its row is the quotient by the size, and its column the remainder
abbrev pub node_at : ℕ → ℕ → OsmNode
node_at size n = record {
  id = id_at size (n / size) (n % size);
  place = record { lat = pos (n / size * 100000); lon = pos (n % size * 100000) };
}

-- the class of a way's road, by its draw
abbrev pub class_of : ℕ → List ℕ
class_of draw =
    if draw == 0 then codes "primary" else if draw == 1 then codes "secondary" else if draw == 2 then codes "tertiary" else codes "residential"

-- the ways are numbered from 0: first the rows, each by growing column, then the columns, each by growing row
abbrev pub ref_at : ℕ → ℕ → ℕ → ℤ
ref_at size n k = if nat_lt n size then id_at size n k else id_at size k (n - size)

abbrev pub refs_of : ℕ → ℕ → List ℤ
refs_of size n = map (ref_at size n) (range_with_len 0 size)

abbrev pub way_at : ℕ → ℕ → OsmWay
way_at size n = record {
  id = pos (n + 1);
  tags = record { key = codes "highway"; value = class_of (draw size n % 4) } ∷ [];
  refs = refs_of size n;
}

-- the map of a size
unfoldable pub map_of : ℕ → OsmMap
map_of size = record {
  nodes = map (node_at size) (range_with_len 0 (size * size));
  ways = map (way_at size) (range_with_len 0 (2 * size));
}
