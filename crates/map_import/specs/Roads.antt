-- The roads of a map: which ways are used, where they are cut, and the edges and towers that this gives.
-- (OSM wiki, "Node", "Way"; that a way is cut where it ends and where a node stands more than once is this project's rule.)
use Rattle.std.specs.Ordering.{int_eq}
use Rattle.std.specs.Prelude.{ℕ, zero, suc, ◌+◌, ◌-◌, ◌≤◌, nat_le, ℤ, pos, Bool, true, false, ◌||◌, if◌then◌else◌, List, [], ◌∷◌, ◌++◌, length, map, slice_index_or, slice_range, count_by, All, ◌≡◌, fold, Option, Some, None, unwrap_or}
use Rattle.std.specs.List.{dedup, filter_map, flat_map, list_any}
use Rattle.std.specs.Option.{option_map}
use Rattle.gh_base.specs.declared.map.OsmMap.{OsmMap}
use Rattle.gh_base.specs.declared.map.OsmNode.{OsmNode}
use Rattle.gh_base.specs.declared.map.OsmWay.{OsmWay}
use Rattle.gh_base.specs.declared.map.Point.{Point}
use Rattle.encoded_values.specs.Values.{TwoValues}
use Rattle.tag_rules.specs.Values.{values_by}
use Rattle.geo_math.specs.Lengths.{line_length}
use Rattle.base_graph.specs.Graphs.{Edge}

-- a way that is used: its id, its nodes with equal neighbours merged, and the values of its edges
pub record UsedWay : Type 0 where
  pub id : ℤ
  pub refs : List ℤ
  pub values : TwoValues

abbrev pub merged : List ℤ → List ℤ
merged refs = dedup int_eq refs

abbrev pub with_values : OsmWay → TwoValues → UsedWay
with_values way values = record { id = way.id; refs = merged way.refs; values = values }

-- a way is used where some vehicle may use it and it has two nodes or more
unfoldable pub used_of : OsmWay → Option UsedWay
used_of way = if nat_le 2 (length (merged way.refs)) then option_map (with_values way) (values_by way.tags) else None

abbrev pub used_ways : List OsmWay → List UsedWay
used_ways ways = filter_map used_of ways

abbrev pub first_of : List ℤ → ℤ
first_of refs = slice_index_or refs 0 (pos 0)

abbrev pub last_of : List ℤ → ℤ
last_of refs = slice_index_or refs (length refs - 1) (pos 0)

-- how often a node stands in the nodes of all used ways
abbrev pub times : List UsedWay → ℤ → ℕ
times ways id = count_by (int_eq id) (flat_map (λ way. way.refs) ways)

-- a node is an end of a way
abbrev pub is_end_of : ℤ → UsedWay → Bool
is_end_of id way = int_eq id (first_of way.refs) || int_eq id (last_of way.refs)

-- towers are the ends of each used way, and each node that stands more than once in all used ways
unfoldable pub is_tower : List UsedWay → ℤ → Bool
is_tower ways id = list_any (is_end_of id) ways || nat_le 2 (times ways id)

-- a piece of a used way between neighbouring towers
pub record Piece : Type 0 where
  pub way : ℤ
  pub refs : List ℤ
  pub values : TwoValues

-- the pieces of what is left of a way, of which a piece has begun
abbrev pub cut_from : (ℤ → Bool) → List ℤ → List ℤ → List (List ℤ)
cut_from tower begun [] = []
cut_from tower begun (id ∷ ids) =
    if tower id then (begun ++ id ∷ []) ∷ cut_from tower (id ∷ []) ids else cut_from tower (begun ++ id ∷ []) ids

-- a way cut at its towers
abbrev pub cut : (ℤ → Bool) → List ℤ → List (List ℤ)
cut tower [] = []
cut tower (id ∷ ids) = cut_from tower (id ∷ []) ids

abbrev pub piece_of : UsedWay → List ℤ → Piece
piece_of way refs = record { way = way.id; refs = refs; values = way.values }

abbrev pub pieces_of_way : (ℤ → Bool) → UsedWay → List Piece
pieces_of_way tower way = map (piece_of way) (cut tower way.refs)

-- the pieces of all used ways, in map order
abbrev pub pieces_of : (ℤ → Bool) → List UsedWay → List Piece
pieces_of tower ways = flat_map (pieces_of_way tower) ways

-- those of a map: edge i is that of the i-th
abbrev pub pieces_in : OsmMap → List Piece
pieces_in m = pieces_of (is_tower (used_ways m.ways)) (used_ways m.ways)

-- the ways that pieces belong to
abbrev pub way_ids : List Piece → List ℤ
way_ids pieces = map (λ piece. piece.way) pieces

-- the way that each edge of a map comes from
unfoldable pub ways_of_edges : OsmMap → List ℤ
ways_of_edges m = way_ids (pieces_in m)

-- where a node stands, if there is one of this id
abbrev pub place_in : List OsmNode → ℤ → Option Point
place_in [] id = None
place_in (node ∷ nodes) id = if int_eq node.id id then Some node.place else place_in nodes id

abbrev pub origin : Point
origin = record { lat = pos 0; lon = pos 0 }

-- where a node stands that is there
abbrev pub place_at : (ℤ → Option Point) → ℤ → Point
place_at place id = unwrap_or (place id) origin

abbrev pub points_along : (ℤ → Option Point) → List ℤ → List Point
points_along place refs = map (place_at place) refs

-- the points between the first and the last
abbrev pub inner : List Point → List Point
inner points = slice_range points 1 (length points - 1)

-- the number of a tower is its place among the ids
abbrev pub number : List ℤ → ℤ → ℕ
number [] id = zero
number (x ∷ ids) id = if int_eq id x then zero else suc (number ids id)

abbrev pub is_numbered : List ℤ → ℤ → Bool
is_numbered ids id = list_any (int_eq id) ids

-- towers are numbered as they first occur
abbrev pub with_tower : List ℤ → ℤ → List ℤ
with_tower ids id = if is_numbered ids id then ids else ids ++ id ∷ []

-- the base of an edge comes before its adjacent tower
abbrev pub with_towers : List ℤ → List ℤ → List ℤ
with_towers ids refs = with_tower (with_tower ids (first_of refs)) (last_of refs)

-- the edge of a piece, when all these towers have numbers
unfoldable pub edge_of : (ℤ → Option Point) → List ℤ → Piece → Edge
edge_of place ids piece = record {
  base = record { 0 = number ids (first_of piece.refs) };
  adjacent = record { 0 = number ids (last_of piece.refs) };
  mm = line_length (points_along place piece.refs);
  between = inner (points_along place piece.refs);
  values = piece.values;
}

-- a piece runs from a tower to the next: it has two nodes or more, its ends are towers, and none between them is
pub record IsPiece (tower : ℤ → Bool) (refs : List ℤ) : Type 0 where
  pub two : 2 ≤ length refs
  pub first : tower (first_of refs) ≡ true
  pub last : tower (last_of refs) ≡ true
  pub inside : All (λ id. tower id ≡ false) (slice_range refs 1 (length refs - 1))

-- the towers of an edge, base before adjacent
abbrev pub ends_of : Piece → List ℤ
ends_of piece = first_of piece.refs ∷ last_of piece.refs ∷ []

-- the towers of pieces as they first occur
abbrev pub towers_in_order : List Piece → List ℤ
towers_in_order pieces = fold with_tower [] (flat_map ends_of pieces)
