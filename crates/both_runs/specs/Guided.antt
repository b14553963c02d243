-- Roads of cars at their opening limits, and what guides searches over them.
use Rattle.std.specs.Prelude.{◌≡◌, ℕ, ◌<◌, List, length, Option, Some, None}
use Rattle.gh_base.specs.Networks.{Network}
use Rattle.walk_rules.specs.Potentials.{flat}
use Rattle.query_graph.specs.declared.ends.Reach.TheVariants.{Node}
use Rattle.weighting.specs.Profiles.{profile_at}
use Rattle.weighting.specs.Roads.{network_back, opening_of}
use Rattle.landmark_prep.specs.Preparations.{Preparation}
use Rattle.landmark_prep.specs.Bounds.{bound_of, labels_at, picked, potential_of}
use Rattle.landmark_prep.specs.Choosing.{AreActive}
use Rattle.traffic_core.specs.Lands.{Land, rule_alone}
use Rattle.two_way_search.specs.Behind.{behind_of}
use Rattle.map_roads.specs.Opening.{IsGuideOf}

-- the roads as the first profile weighs them at the limits that they open with, turned round
abbrev pub opening_back : Land → Network
opening_back land = network_back (rule_alone (profile_at land.profiles 0)) (opening_of land.graph) land.graph

-- the active landmarks of a preparation between two towers: those that say most of the way from the one to the other
abbrev pub AreActiveBetween : Preparation → ℕ → ℕ → List ℕ → Type 0
AreActiveBetween prep from to active =
    AreActive (λ place. bound_of (labels_at prep.labels place) from to) (length prep.landmarks) active

-- the bounds of a search from both ends: 0 where nothing guides it, else those of the active landmarks, ahead to the second tower and behind from the first
abbrev pub AreBounds : Land → Option Preparation → ℕ → ℕ → (ℕ → Option ℕ) → (ℕ → Option ℕ) → Type 0
AreBounds land None from to ahead behind = (ahead ≡ flat) × (behind ≡ flat)
AreBounds land (Some prep) from to ahead behind =
    (active : List ℕ) × AreActiveBetween prep from to active
    × (ahead ≡ potential_of (picked prep.labels active) (Node (record { 0 = to })) (length land.graph.places))
    × (behind ≡ behind_of (picked prep.labels active) from (length land.graph.places))

-- roads, and the preparation that guides searches over them, if there is one
pub record Guided : Type 0 where
  pub land : Land
  pub guide : Option Preparation

-- there is a first profile, and what guides is of it
pub record IsGuided (land : Land) (guide : Option Preparation) : Type 0 where
  pub there : 0 < length land.profiles
  pub count : ℕ
  pub guides : IsGuideOf land count guide
