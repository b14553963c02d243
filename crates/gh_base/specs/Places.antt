-- Which points there are (OSM wiki, "Node": latitudes to 90 degrees, longitudes to 180, here in 1e-7 degree).
use Rattle.std.specs.Prelude.{ℕ, ℤ, pos, neg_ℤ, ◌≤ℤ◌}
use Rattle.gh_base.specs.declared.map.Point.{Point}
use Rattle.gh_base.specs.declared.query.Place.{Place}
use Rattle.gh_base.specs.declared.query.Place.TheVariants as place

-- the greatest latitude
abbrev pub most_lat : ℕ
most_lat = 900000000

-- the greatest longitude
abbrev pub most_lon : ℕ
most_lon = 1800000000

-- at most so far from 0, on both sides
abbrev pub IsWithin : ℕ → ℤ → Type 0
IsWithin most z = (neg_ℤ (pos most) ≤ℤ z) × (z ≤ℤ pos most)

-- at most 90 degrees from the equator, at most 180 from the meridian
pub record IsOnEarth (point : Point) : Type 0 where
  pub south : neg_ℤ (pos most_lat) ≤ℤ point.lat
  pub north : point.lat ≤ℤ pos most_lat
  pub west : neg_ℤ (pos most_lon) ≤ℤ point.lon
  pub east : point.lon ≤ℤ pos most_lon

-- a point of a query is one of the earth's
abbrev pub IsPlace : Place → Type 0
IsPlace (place.Id id) = Unit {0}
IsPlace (place.At point) = IsOnEarth point
