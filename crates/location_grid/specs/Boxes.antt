-- Boxes of the map, between two latitudes and two longitudes.
use Rattle.std.specs.Prelude.{◌≤ℤ◌, ◌<◌, pos, neg_ℤ, Option, Some, None}
use Rattle.std.specs.Int.{int_min, int_max}
use Rattle.gh_base.specs.declared.map.Point.{Point}
use Rattle.gh_base.specs.Places.{most_lat, most_lon}
use Rattle.geo_math.specs.Foot.{foot}
use Rattle.location_grid.specs.declared.found.Found.{Found}
use Rattle.location_grid.specs.declared.bounds.Bounds.{Bounds}

-- a point lies in a box or on its border
pub record IsIn (bounds : Bounds) (point : Point) : Type 0 where
  pub south : bounds.south ≤ℤ point.lat
  pub north : point.lat ≤ℤ bounds.north
  pub west : bounds.west ≤ℤ point.lon
  pub east : point.lon ≤ℤ bounds.east

-- some of a box is on the earth
pub record MeetsEarth (bounds : Bounds) : Type 0 where
  pub south : bounds.south ≤ℤ pos most_lat
  pub north : neg_ℤ (pos most_lat) ≤ℤ bounds.north
  pub west : bounds.west ≤ℤ pos most_lon
  pub east : neg_ℤ (pos most_lon) ≤ℤ bounds.east

-- the point of a box that is nearest to p
unfoldable pub nearest_in : Bounds → Point → Point
nearest_in bounds p = record {
  lat = int_min (int_max p.lat bounds.south) bounds.north;
  lon = int_min (int_max p.lon bounds.west) bounds.east;
}

-- what was found is nearer to p than the whole box
abbrev pub IsPast : Point → Bounds → Option Found → Type 0
IsPast p bounds None = ⊥
IsPast p bounds (Some found) = found.snap.dist2 < (foot p (nearest_in bounds p) (nearest_in bounds p)).dist2
