-- Preparations that are true over the roads, and what they say of a trip.
use Rattle.std.specs.Prelude.{◌≡◌, ℕ, ◌*◌, ◌<◌, List, length, Option, Some, None}
use Rattle.gh_base.specs.declared.edges.DirEdge.{DirEdge}
use Rattle.gh_base.specs.Networks.{Network}
use Rattle.walk_rules.specs.Potentials.{flat}
use Rattle.base_graph.specs.Graphs.{Graph, edge_at}
use Rattle.weighting.specs.Roads.{network_by}
use Rattle.weighting.specs.SlowRoads.{AreNowhereAbove}
use Rattle.landmark_choice.specs.Parts.{IsBarred}
use Rattle.landmark_prep.specs.Preparations.{Preparation, IsPrepOf, nodes_of}
use Rattle.landmark_prep.specs.Bounds.{bound_of, labels_at, picked, potential_of}
use Rattle.landmark_prep.specs.Choosing.{AreActive}
use Rattle.traffic_core.specs.declared.entry.Entry.{Entry}
use Rattle.traffic_core.specs.declared.spot.Spot.{Spot}
use Rattle.traffic_core.specs.declared.spot.Spot.TheVariants.{Tower, Inside}
use Rattle.weighting.specs.Profiles.{profile_at}
use Rattle.traffic_core.specs.Lands.{Land, rule_alone}
use Rattle.traffic_core.specs.History.{limit_in, limit_after, AreLimitsAfter}
use Rattle.traffic_core.specs.Trips.{Trip}

-- the roads as a profile alone weighs them at limits
abbrev pub network_at : Land → ℕ → (DirEdge → ℕ) → Network
network_at land profile limits = network_by (rule_alone (profile_at land.profiles profile)) limits land.graph

-- the preparation of a profile after a history, with so many landmarks at most: that of the roads at the limits after it
pub record IsPrepAt (land : Land) (h : List Entry) (profile count : ℕ) (prep : Preparation) : Type 0 where
  pub of_profile : prep.profile ≡ profile
  pub snapshot : AreLimitsAfter land.graph h prep.snapshot
  pub is_prep : IsPrepOf (network_at land profile (limit_in prep.snapshot)) count prep

-- no road can be used under the profile after the history
abbrev pub IsNoPrepAt : Land → List Entry → ℕ → Type 0
IsNoPrepAt land h profile = (node : ℕ) → node < length land.graph.places → IsBarred (network_at land profile (limit_after land.graph h)) node

-- it is the preparation of its profile at its snapshot, with as many landmarks as it has
pub record IsTrueOver (land : Land) (prep : Preparation) : Type 0 where
  pub there : prep.profile < length land.profiles
  pub long : length prep.snapshot ≡ 2 * length land.graph.edges
  pub is_prep : IsPrepOf (network_at land prep.profile (limit_in prep.snapshot)) (length prep.landmarks) prep

-- it is one of the profile, with a snapshot limit for each directed edge and labels for each tower, and no limit is above its snapshot's
pub record CanGuide (land : Land) (limits : DirEdge → ℕ) (profile : ℕ) (prep : Preparation) : Type 0 where
  pub of_profile : prep.profile ≡ profile
  pub long : length prep.snapshot ≡ 2 * length land.graph.edges
  pub nodes : nodes_of prep.labels ≡ length land.graph.places
  pub above : AreNowhereAbove land.graph limits (limit_in prep.snapshot)

-- the tower that stands for a spot where landmarks are picked: a tower itself, and the base of an edge for a spot inside it
abbrev pub representative : Graph → Spot → ℕ
representative graph (Tower node) = node.0
representative graph (Inside edge mm) = (edge_at graph.edges edge.0).base.0

-- what a landmark says between two spots
abbrev pub said_between : Graph → Preparation → Spot → Spot → ℕ → Option ℕ
said_between graph prep from to place = bound_of (labels_at prep.labels place) (representative graph from) (representative graph to)

-- the bound that guides a search between two spots: 0 without a preparation, else that of the active landmarks to where the trip leads
abbrev pub IsBoundOf : Land → Trip → Spot → Spot → Option Preparation → (ℕ → Option ℕ) → Type 0
IsBoundOf land trip from to None bound = bound ≡ flat
IsBoundOf land trip from to (Some prep) bound =
    (active : List ℕ) × AreActive (said_between land.graph prep from to) (length prep.landmarks) active
    × (bound ≡ potential_of (picked prep.labels active) trip.to (length land.graph.places))
