-- Histories: lists of entries, the limits after them, and which publication is in the slot of a profile.
use Rattle.std.specs.Prelude.{◌≡◌, ℕ, ◌+◌, ◌*◌, ◌-◌, ◌<◌, ◌≤◌, ◌==◌, List, length, take, slice_get, slice_index_or, Option, Some, None, unwrap_or, if◌then◌else◌}
use Rattle.std.specs.List.{filter_map, last_or}
use Rattle.gh_base.specs.declared.edges.DirEdge.{DirEdge}
use Rattle.base_graph.specs.Graphs.{Graph}
use Rattle.weighting.specs.Roads.{opening_of}
use Rattle.weighting.specs.SlowRoads.{AreNowhereAbove}
use Rattle.landmark_prep.specs.Preparations.{Preparation}
use Rattle.traffic_core.specs.declared.entry.Entry.{Entry}
use Rattle.traffic_core.specs.declared.entry.What.{What}
use Rattle.traffic_core.specs.declared.entry.What.TheVariants.{Lower, Restore, Publish}

-- where a directed edge stands in a list of limits: two an edge, forward first
abbrev pub index_of : DirEdge → ℕ
index_of by = 2 * by.edge.0 + (if by.reverse then 1 else 0)

-- its limit there, and 0 past the end
abbrev pub limit_in : List ℕ → DirEdge → ℕ
limit_in limits by = slice_index_or limits (index_of by) 0

-- the speed that a change gives a directed edge
abbrev pub speed_by : DirEdge → What → Option ℕ
speed_by by (Lower changed speed) = if index_of changed == index_of by then Some speed else None
speed_by by (Restore changed speed) = if index_of changed == index_of by then Some speed else None
speed_by by (Publish prep) = None

abbrev pub speed_on : DirEdge → Entry → Option ℕ
speed_on by entry = speed_by by entry.what

-- a directed edge's limit: the speed of the last entry on it, or the limit that it opens with where there is none
abbrev pub limit_after : Graph → List Entry → DirEdge → ℕ
limit_after graph h by = unwrap_or (last_or None (filter_map (speed_on by) h)) (opening_of graph by)

-- a list of limits is that after the history
pub record AreLimitsAfter (graph : Graph) (h : List Entry) (limits : List ℕ) : Type 0 where
  pub long : length limits ≡ 2 * length graph.edges
  pub each : (by : DirEdge) → limit_in limits by ≡ limit_after graph h by

-- no snapshot limit is below the limit after the history
abbrev pub Covers : Graph → List Entry → Preparation → Type 0
Covers graph h prep = AreNowhereAbove graph (limit_after graph h) (limit_in prep.snapshot)

-- the first directed edge, forward before reverse, whose snapshot limit is below its limit
pub record IsFirstBelow (graph : Graph) (limits : DirEdge → ℕ) (snapshot : List ℕ) (by : DirEdge) : Type 0 where
  pub there : by.edge.0 < length graph.edges
  pub below : limit_in snapshot by < limits by
  pub first : (other : DirEdge) → index_of other < index_of by → limits other ≤ limit_in snapshot other

-- an entry behind a history publishes a preparation of the profile, and takes effect
pub record Publishes (graph : Graph) (h : List Entry) (entry : Entry) (profile : ℕ) (prep : Preparation) : Type 0 where
  pub what : entry.what ≡ Publish prep
  pub of_profile : prep.profile ≡ profile
  pub covers : Covers graph h prep

-- so does the entry at a place, counted from 1
pub record TakesEffect (graph : Graph) (h : List Entry) (profile place : ℕ) (prep : Preparation) : Type 0 where
  pub from_one : 1 ≤ place
  pub entry : Entry
  pub entry_is : slice_get h (place - 1) ≡ Some entry
  pub publishes : Publishes graph (take (place - 1) h) entry profile prep

-- it is the last of its profile that does, and since then no limit was above its snapshot's
pub record IsInSlot (graph : Graph) (h : List Entry) (profile place : ℕ) (prep : Preparation) : Type 0 where
  pub effect : TakesEffect graph h profile place prep
  pub last : (later : ℕ) (other : Preparation) → place < later → TakesEffect graph h profile later other → ⊥
  pub stays : (count : ℕ) → place ≤ count → count ≤ length h → Covers graph (take count h) prep

-- the slot of a profile: the place of the publication in it, or none
abbrev pub IsSlot : Graph → List Entry → ℕ → Option ℕ → Type 0
IsSlot graph h profile None = (place : ℕ) (prep : Preparation) → IsInSlot graph h profile place prep → ⊥
IsSlot graph h profile (Some place) = (prep : Preparation) × IsInSlot graph h profile place prep

-- the preparation that guides queries of a profile: that in its slot, or none
abbrev pub IsGuide : Graph → List Entry → ℕ → Option Preparation → Type 0
IsGuide graph h profile None = IsSlot graph h profile None
IsGuide graph h profile (Some prep) = (place : ℕ) × IsInSlot graph h profile place prep

-- no entry behind the history publishes over the profile's slot
abbrev pub LeavesSlot : Graph → List Entry → Entry → ℕ → Type 0
LeavesSlot graph h entry profile = (other : Preparation) → Publishes graph h entry profile other → ⊥
