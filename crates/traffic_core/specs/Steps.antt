-- Private to this crate: what the steps of `apply` leave.
use Rattle.std.specs.Prelude.{◌≡◌, ℕ, ◌+◌, ◌≤◌, ◌⊎◌, List, [], ◌∷◌, ◌++◌, length, Option}
use Rattle.gh_base.specs.declared.edges.DirEdge.{DirEdge}
use Rattle.base_graph.specs.Graphs.{Graph}
use Rattle.landmark_prep.specs.Preparations.{Preparation}
use Rattle.traffic_core.specs.declared.entry.Entry.{Entry}
use Rattle.traffic_core.specs.declared.entry.What.{What}
use Rattle.traffic_core.specs.declared.entry.What.TheVariants.{Lower, Restore, Publish}
use Rattle.traffic_core.specs.Lands.{Land}
use Rattle.traffic_core.specs.History.{AreLimitsAfter, IsSlot}
use Rattle.traffic_core.specs.Standing.{State, Stands, AreSlotsAfter}
use Rattle.traffic_core.specs.Rows.{Rows}

-- a state has a slot for each profile, and a row at most for each entry
pub record IsKept (land : Land) (changed : Rows) (slots : List (Option ℕ)) (len room : ℕ) : Type 0 where
  pub profiles : length slots ≡ length land.profiles
  pub entries : length changed.rows ≤ len
  pub most : changed.room ≡ room

-- a lowering or a restoring, of the directed edge to the speed
abbrev pub Changes : What → DirEdge → ℕ → Type 0
Changes what by speed = (what ≡ Lower by speed) ⊎ (what ≡ Restore by speed)

-- limits and slots are those after the history, the length aside
pub record HasTaken (state : State) (h : List Entry) : Type 0 where
  pub limits : AreLimitsAfter state.land.graph h state.limits
  pub slots : AreSlotsAfter state.land h state.slots

-- one entry more is counted
pub record IsCounted (old new : State) : Type 0 where
  pub land : new.land ≡ old.land
  pub len : new.len ≡ old.len + 1
  pub room : new.room ≡ old.room

-- a slot is that of a profile after whatever change of the directed edge to the speed came behind the history
abbrev pub IsSlotAfterChange : Graph → List Entry → DirEdge → ℕ → ℕ → Option ℕ → Type 0
IsSlotAfterChange graph h by speed profile slot = (entry : Entry) → Changes entry.what by speed → IsSlot graph (h ++ entry ∷ []) profile slot

-- so are all slots
abbrev pub AreSlotsAfterChange : Land → List Entry → DirEdge → ℕ → List (Option ℕ) → Type 0
AreSlotsAfterChange land h by speed slots = (entry : Entry) → Changes entry.what by speed → AreSlotsAfter land (h ++ entry ∷ []) slots

-- and limits and slots
abbrev pub HasTakenChange : State → List Entry → DirEdge → ℕ → Type 0
HasTakenChange state h by speed = (entry : Entry) → Changes entry.what by speed → HasTaken state (h ++ entry ∷ [])

-- the same of a publication behind each history that the state stood for
abbrev pub HasTakenPublication : State → State → Preparation → Type 0
HasTakenPublication old now prep = (h : List Entry) (entry : Entry) → entry.what ≡ Publish prep → Stands old h → HasTaken now (h ++ entry ∷ [])
