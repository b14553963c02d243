-- Where places of queries lie on the roads: an id at its tower, and a point at the nearest edge that can be used (GraphHopper's snapping).
use Rattle.std.specs.Prelude.{◌≡◌, ℕ, ℤ, ◌<◌, Bool, false, Option, Some, None, length}
use Rattle.gh_base.specs.declared.map.Point.{Point}
use Rattle.gh_base.specs.declared.query.Place.{Place}
use Rattle.gh_base.specs.declared.query.Place.TheVariants.{Id, At}
use Rattle.location_grid.specs.Nearest.{IsNearest}
use Rattle.location_grid.specs.declared.grid.OnEdge.{OnEdge}
use Rattle.weighting.specs.Roads.{is_usable}
use Rattle.traffic_core.specs.declared.spot.Spot.{Spot}
use Rattle.traffic_core.specs.declared.spot.Spot.TheVariants.{Tower, Inside}
use Rattle.weighting.specs.Profiles.{profile_at}
use Rattle.traffic_core.specs.Lands.{Land, IsTower, IsNoTower, rule_alone}
use Rattle.traffic_core.specs.Spots.{spot_along}

-- where an id lies: at the tower that has it, and nowhere where none has
abbrev pub IsSpotOf : Land → ℤ → Option Spot → Type 0
IsSpotOf land id None = IsNoTower land id
IsSpotOf land id (Some (Tower node)) = IsTower land id node.0
IsSpotOf land id (Some (Inside edge mm)) = ⊥

-- the edges that can be used under a profile alone, at the limits that the roads open with
abbrev pub usable_in : Land → ℕ → ℕ → Bool
usable_in land profile edge = is_usable (rule_alone (profile_at land.profiles profile)) land.graph edge

-- where a point lies under a profile: at the nearest place of the edges that can be used, and nowhere where none can be
abbrev pub IsSnapOf : Land → ℕ → Point → Option Spot → Type 0
IsSnapOf land profile point None = (edge : ℕ) → edge < length land.graph.edges → usable_in land profile edge ≡ false
IsSnapOf land profile point (Some spot) =
    (at : OnEdge) × IsNearest land.graph point (usable_in land profile) at × (spot ≡ spot_along land.graph at.edge at.offset_mm)

-- where a place lies under a profile
abbrev pub IsSpot : Land → ℕ → Place → Option Spot → Type 0
IsSpot land profile (Id id) spot = IsSpotOf land id spot
IsSpot land profile (At point) spot = IsSnapOf land profile point spot

abbrev pub IsNowhere : Land → ℕ → Place → Type 0
IsNowhere land profile place = IsSpot land profile place None

abbrev pub IsSomewhere : Land → ℕ → Place → Type 0
IsSomewhere land profile place = (spot : Spot) × IsSpot land profile place (Some spot)
