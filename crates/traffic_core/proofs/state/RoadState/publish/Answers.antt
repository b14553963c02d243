use Rattle.std.proofs.Common.{[], ◌∷◌, ◌++◌, subst, sym}
use Rattle.traffic_core.specs.Standing.{State}
use Rattle.traffic_core.specs.Steps.{HasTaken}
use Rattle.traffic_core.proofs.state.RoadState.publish.Goals as goal

pub returns-clause-taken : goal.returns-clause-taken
returns-clause-taken c h entry what stands =
    let taken = c.take_slot.ensures.taken h entry what stands in
    subst (λ (s : State). HasTaken s (h ++ entry ∷ [])) (sym c.count.ensures) (record { limits = taken.limits; slots = taken.slots })
