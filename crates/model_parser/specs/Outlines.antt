-- Polygons and their rings (RFC 7946, sections 3.1.1, 3.1.6 and 3.1.7). Rounding to 1e-7 degree is this project's own.
use Rattle.std.specs.Prelude.{ℕ, ◌+◌, ◌-◌, ◌*◌, ◌/◌, ◌^◌, ℤ, Bool, false, ◌&&◌, List, [], ◌∷◌, length, Option, Some, None, nat_lt, nat_le, slice_get, codes, if◌then◌else◌}
use Rattle.std.specs.List.{sum_by}
use Rattle.std.specs.Ordering.{int_eq}
use Rattle.std.specs.Str.{bytes_eq}
use Rattle.gh_base.specs.Decimals.{signed}
use Rattle.gh_base.specs.Places.{most_lat, most_lon}
use Rattle.gh_base.specs.declared.map.Point.{Point}
use Rattle.exact_json.specs.Decimals.{DecimalValue}
use Rattle.exact_json.specs.declared.value.Json.{Json}
use Rattle.exact_json.specs.declared.value.Member.{Member}
use Rattle.model_parser.specs.declared.outlines.Outline.{Outline}
use Rattle.model_parser.specs.declared.outlines.Outline.TheVariants.{Polygon, MultiPolygon}
use Rattle.model_parser.specs.Values.{◌>>=◌, array_of, number_of, items, find, text_at, is_array, all_of}

-- a decimal in 1e-7 degree without its sign: rounded down, so the magnitude of a negative one is rounded up
abbrev pub magnitude : DecimalValue → ℕ
magnitude d = (d.digits * 10000000 + (if d.negative then 10 ^ d.places - 1 else 0)) / 10 ^ d.places

-- a coordinate of at most so many 1e-7 degrees
unfoldable pub rounded : ℕ → DecimalValue → Option ℤ
rounded most d = if nat_lt most (magnitude d) then None else Some (signed d.negative (magnitude d))

unfoldable pub coordinate : ℕ → Json → Option ℤ
coordinate most v = number_of v >>= rounded most

-- RFC 7946, 3.1.1, position: longitude, then latitude; further numbers are skipped
abbrev pub point_by : List Json → Option Point
point_by (x ∷ y ∷ rest) = do
  lon ← coordinate most_lon x
  lat ← coordinate most_lat y
  Some (record { lat = lat; lon = lon })
point_by _ = None

unfoldable pub point_of : Json → Option Point
point_of v = point_by (items v)

abbrev pub same_point : Point → Point → Bool
same_point a b = int_eq a.lat b.lat && int_eq a.lon b.lon

abbrev pub meet : Option Point → Option Point → Bool
meet (Some a) (Some b) = same_point a b
meet _ _ = false

-- RFC 7946, 3.1.6, linear ring: at least four positions, the last equal to the first
unfoldable pub is_closed : List Point → Bool
is_closed ps = nat_le 4 (length ps) && meet (slice_get ps 0) (slice_get ps (length ps - 1))

-- a ring is an array of positions, which are arrays
abbrev pub is_ring : Json → Bool
is_ring v = all_of is_array (array_of v)

-- RFC 7946, 3.1.6: a polygon is an array of rings, at least one
abbrev pub is_polygon : Json → Bool
is_polygon v = all_of is_ring (array_of v) && nat_lt 0 (length (items v))

-- RFC 7946, 3.1.7: the polygons of these coordinates
abbrev pub polygons_of : Outline → Json → Option (List Json)
polygons_of Polygon v = if is_polygon v then Some (v ∷ []) else None
polygons_of MultiPolygon v = if all_of is_polygon (array_of v) then array_of v else None

abbrev pub outline_of : List ℕ → Option Outline
outline_of name =
    if bytes_eq name (codes "Polygon") then Some Polygon
    else if bytes_eq name (codes "MultiPolygon") then Some MultiPolygon
    else None

-- RFC 7946, 3.1: the polygons of a geometry
unfoldable pub geometry_of : List Member → Option (List Json)
geometry_of ms = do
  name ← text_at (codes "type") ms
  outline ← outline_of name
  v ← find (codes "coordinates") ms
  polygons_of outline v

-- how many positions there are
abbrev pub ring_size : Json → ℕ
ring_size v = length (items v)

abbrev pub polygon_size : Json → ℕ
polygon_size v = sum_by ring_size (items v)

abbrev pub positions_in : List Json → ℕ
positions_in polygons = sum_by polygon_size polygons
