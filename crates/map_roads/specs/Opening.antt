-- Roads at the limits that they open with, and what guides searches over them.
use Rattle.std.specs.Prelude.{ℕ, [], Option, Some, None}
use Rattle.gh_base.specs.declared.edges.NodeId.{NodeId}
use Rattle.gh_base.specs.Networks.{Network}
use Rattle.weighting.specs.Profiles.{profile_at}
use Rattle.weighting.specs.Roads.{opening_of}
use Rattle.landmark_prep.specs.Preparations.{Preparation}
use Rattle.landmark_prep.specs.declared.making.Made.{Made}
use Rattle.landmark_prep.specs.declared.making.Made.TheVariants.{Prep, NoLandmark}
use Rattle.traffic_core.specs.declared.spot.Spot.TheVariants.{Tower}
use Rattle.traffic_core.specs.Lands.{Land, rule_alone}
use Rattle.traffic_core.specs.Trips.{Trip, trip_by}
use Rattle.traffic_core.specs.Truth.{network_at, IsPrepAt, IsNoPrepAt, IsBoundOf}

-- the roads as their first profile weighs them at the limits that they open with
abbrev pub opening_network : Land → Network
opening_network land = network_at land 0 (opening_of land.graph)

-- from tower to tower over them
abbrev pub opening_trip : Land → NodeId → NodeId → Trip
opening_trip land from to = trip_by (rule_alone (profile_at land.profiles 0)) (opening_of land.graph) land.graph (Tower from) (Tower to)

-- the preparation that was made, or none
abbrev pub guide_of : Made → Option Preparation
guide_of (Prep prep) = Some prep
guide_of NoLandmark = None

-- what guides searches there: their preparation with at most so many landmarks, or nothing where no road can be used
abbrev pub IsGuideOf : Land → ℕ → Option Preparation → Type 0
IsGuideOf land count None = IsNoPrepAt land [] 0
IsGuideOf land count (Some prep) = IsPrepAt land [] 0 count prep

-- the bound that guides a search between two towers: that of the landmarks that are active there, or 0 where nothing guides
abbrev pub IsBoundBetween : Land → NodeId → NodeId → Option Preparation → (ℕ → Option ℕ) → Type 0
IsBoundBetween land from to guide bound = IsBoundOf land (opening_trip land from to) (Tower from) (Tower to) guide bound
