-- The rings of polygons, ring by ring, with their first fault (RFC 7946, sections 3.1.1 and 3.1.6).
use Rattle.std.specs.Prelude.{ℕ, List, [], ◌∷◌, Ok}
use Rattle.gh_base.specs.declared.map.Point.{Point}
use Rattle.gh_base.specs.declared.kinds.Part.TheVariants as part
use Rattle.gh_base.specs.declared.kinds.ModelKind.TheVariants as kind
use Rattle.exact_json.specs.declared.value.Json.{Json}
use Rattle.model_parser.specs.Faults.{Outcome, ◌>>=◌, ◌>>◌, pure, known, must, each}
use Rattle.model_parser.specs.Values.{items}
use Rattle.model_parser.specs.Outlines.{point_of, is_closed}

abbrev pub position_of : ℕ → Json → Outcome Point
position_of item v = known part.Areas item kind.Position (point_of v)

-- the positions of a ring, and then whether they close
unfoldable pub ring_of : ℕ → Json → Outcome (List Point)
ring_of item v = do
  points ← each (position_of item) [] (items v)
  must part.Areas item kind.Ring (is_closed points)
  pure points

-- the rings of a polygon, behind those that were found
abbrev pub polygon_rings : ℕ → List (List Point) → Json → Outcome (List (List Point))
polygon_rings item found p = each (ring_of item) found (items p)

-- the rings of these polygons, in order, behind those that were found
abbrev pub rings_from : ℕ → List (List Point) → List Json → Outcome (List (List Point))
rings_from item found [] = Ok found
rings_from item found (p ∷ ps) = polygon_rings item found p >>= λ more. rings_from item more ps
