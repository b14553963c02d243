-- A feature of GeoJSON (RFC 7946): an object of JSON (RFC 8259), without spaces, on one line.
use Rattle.std.specs.Prelude.{ℕ, List, [], ◌∷◌, ◌++◌, map, codes, decimal}
use Rattle.std.specs.Fmt.{signed_decimal}
use Rattle.std.specs.List.{join_with_byte}
use Rattle.gh_base.specs.declared.map.Point.{Point}
use Rattle.plain_map.specs.Printing.{coordinate_text}
use Rattle.road_lines.specs.declared.line.Properties.{Properties}

-- RFC 8259, 7: a text between quotes, which has nothing to escape
abbrev pub quoted : List ℕ → List ℕ
quoted text = 34 ∷ text ++ 34 ∷ []

-- RFC 8259, 4: a name, a colon and a value
abbrev pub member : List ℕ → List ℕ → List ℕ
member name value = quoted name ++ 58 ∷ value

-- RFC 8259, 4: members between braces, with commas between them
abbrev pub object : List (List ℕ) → List ℕ
object members = 123 ∷ join_with_byte 44 members ++ 125 ∷ []

-- RFC 8259, 5: values between brackets, with commas between them
abbrev pub array : List (List ℕ) → List ℕ
array values = 91 ∷ join_with_byte 44 values ++ 93 ∷ []

-- RFC 7946, 3.1.1: longitude first, in degrees
abbrev pub position_text : Point → List ℕ
position_text point = array (coordinate_text point.lon ∷ coordinate_text point.lat ∷ [])

-- RFC 7946, 3.1.4: the positions of a line
abbrev pub positions_text : List Point → List ℕ
positions_text points = array (map position_text points)

unfoldable pub properties_text : Properties → List ℕ
properties_text p = object (
    member (codes "edge") (decimal p.edge)
    ∷ member (codes "way") (signed_decimal p.way)
    ∷ member (codes "base") (signed_decimal p.base)
    ∷ member (codes "adjacent") (signed_decimal p.adjacent)
    ∷ member (codes "mm") (decimal p.mm)
    ∷ member (codes "forward") (decimal p.forward)
    ∷ member (codes "reverse") (decimal p.reverse)
    ∷ [])

unfoldable pub geometry_text : List Point → List ℕ
geometry_text points = object (
    member (codes "type") (quoted (codes "LineString"))
    ∷ member (codes "coordinates") (positions_text points)
    ∷ [])

-- RFC 7946, 3.2: a feature, of an edge's properties and its points
unfoldable pub feature_text : Properties → List Point → List ℕ
feature_text properties points = object (
    member (codes "type") (quoted (codes "Feature"))
    ∷ member (codes "properties") (properties_text properties)
    ∷ member (codes "geometry") (geometry_text points)
    ∷ [])
