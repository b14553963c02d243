use Rattle.std.proofs.Common.{◌≡◌, ℕ, ◌<◌, ◌≤◌, List, [], ◌∷◌, ◌++◌, length, None}
use Rattle.std.specs.Prelude.{slice_index_or}
use Rattle.gh_base.specs.declared.edges.DirEdge.{DirEdge}
use Rattle.traffic_core.specs.declared.entry.Entry.{Entry}
use Rattle.traffic_core.specs.History.{IsSlot}
use Rattle.traffic_core.specs.Standing.{State}
use Rattle.traffic_core.specs.Steps.{Changes}
use Rattle.traffic_core.proofs.state.RoadState.test_slots.Given as goal

-- slots below a profile are tested, and the others are as they were
pub record AreTestedBelow (h : List Entry) (by : DirEdge) (speed : ℕ) (old now : State) (profile : ℕ) : Type 0 where
  pub same : now ≡ record old { slots = now.slots }
  pub len : length now.slots ≡ length now.land.profiles
  pub rest : (p : ℕ) → profile ≤ p → p < length now.land.profiles → IsSlot now.land.graph h p (slice_index_or now.slots p None)
  pub tested : (entry : Entry) → Changes entry.what by speed →
      (p : ℕ) → p < profile → IsSlot now.land.graph (h ++ entry ∷ []) p (slice_index_or now.slots p None)

abbrev pub invariant-loop-profile : goal.invariant-loop-profile
invariant-loop-profile g l = AreTestedBelow (g.E.Entries.entries l.before) l.by l.speed l.fn.self l.self l.profile
