-- What a state of the roads holds, and for which histories it stands.
use Rattle.std.specs.Prelude.{◌≡◌, ℕ, ◌*◌, ◌<◌, List, length, All, Option, None, slice_index_or}
use Rattle.gh_base.specs.declared.edges.DirEdge.{DirEdge}
use Rattle.weighting.specs.SlowRoads.{AreNowhereAbove}
use Rattle.traffic_core.specs.declared.entry.Entry.{Entry}
use Rattle.traffic_core.specs.declared.entry.What.{What}
use Rattle.traffic_core.specs.declared.entry.What.TheVariants.{Lower, Restore, Publish}
use Rattle.landmark_prep.specs.Preparations.{nodes_of}
use Rattle.traffic_core.specs.Lands.{Land}
use Rattle.traffic_core.specs.History.{limit_in, AreLimitsAfter, IsFirstBelow, IsSlot}

-- the roads, each limit by index, the place in the slot of each profile, how many entries it stands for, and for how many there is room
pub record State : Type 0 where
  pub land : Land
  pub limits : List ℕ
  pub slots : List (Option ℕ)
  pub len : ℕ
  pub room : ℕ

-- the directed edge is there; or the profile is, with a snapshot limit for each directed edge and labels for each tower
abbrev pub IsOnLand : Land → What → Type 0
IsOnLand land (Lower by speed) = by.edge.0 < length land.graph.edges
IsOnLand land (Restore by speed) = by.edge.0 < length land.graph.edges
IsOnLand land (Publish prep) =
    (prep.profile < length land.profiles) × (length prep.snapshot ≡ 2 * length land.graph.edges) × (nodes_of prep.labels ≡ length land.graph.places)

abbrev pub AreOnLand : Land → List Entry → Type 0
AreOnLand land h = All (λ (entry : Entry). IsOnLand land entry.what) h

-- the list has the slot of each profile after the history
pub record AreSlotsAfter (land : Land) (h : List Entry) (slots : List (Option ℕ)) : Type 0 where
  pub count : length slots ≡ length land.profiles
  pub each : (profile : ℕ) → profile < length land.profiles → IsSlot land.graph h profile (slice_index_or slots profile None)

-- the state stands for the history
pub record Stands (state : State) (h : List Entry) : Type 0 where
  pub on_land : AreOnLand state.land h
  pub limits : AreLimitsAfter state.land.graph h state.limits
  pub slots : AreSlotsAfter state.land h state.slots
  pub len : state.len ≡ length h

-- the state has room for one more entry, and the entry is one of its roads
pub record CanTake (state : State) (entry : Entry) : Type 0 where
  pub room : state.len < state.room
  pub on_land : IsOnLand state.land entry.what

-- a snapshot covers the limits that the state holds
abbrev pub IsCoveredBy : State → List ℕ → Type 0
IsCoveredBy state snapshot = AreNowhereAbove state.land.graph (limit_in state.limits) (limit_in snapshot)

-- the first directed edge, forward before reverse, at which it doesn't
abbrev pub IsFirstOver : State → List ℕ → DirEdge → Type 0
IsFirstOver state snapshot by = IsFirstBelow state.land.graph (limit_in state.limits) snapshot by
