use Rattle.std.proofs.Common.{[], ◌∷◌, ◌++◌, subst, sym}
use Rattle.traffic_core.specs.History.{AreLimitsAfter}
use Rattle.traffic_core.specs.Standing.{State}
use Rattle.traffic_core.proofs.StandsAfter.{limits_after_change}
use Rattle.traffic_core.proofs.state.RoadState.change.Goals as goal

pub returns-clause-taken : goal.returns-clause-taken
returns-clause-taken g c entry is =
    let h = g.E.Entries.entries c.args.before.now in
    let set = subst (λ (s : State). AreLimitsAfter s.land.graph (h ++ entry ∷ []) s.limits) (sym c.set_limit.ensures)
    (limits_after_change c.args.self.now.land.graph h c.args.self.now.limits entry c.args.by c.args.speed is c.requires.by c.requires.before.limits) in
    record { limits = subst (λ (s : State). AreLimitsAfter s.land.graph (h ++ entry ∷ []) s.limits) (sym c.test_slots.ensures.same) set; slots = c.test_slots.ensures.slots entry is }
