use Rattle.std.proofs.Common.{Some}
use Rattle.traffic_core.specs.History.{IsSlot}
use Rattle.traffic_core.proofs.StandsAfter.{in_slot_by, limits_covered}
use Rattle.traffic_core.proofs.state.RoadState.preparation.Goals as goal

pub returns-clause-covers : goal.returns-clause-covers
returns-clause-covers g c =
    let slot : IsSlot c.args.self.now.land.graph (g.E.Entries.entries c.args.before.now) c.args.profile (Some c.in_ok-place.place) =
    rw (← c.in_ok-place.ensures) at (c.requires.before.slots.each c.args.profile c.requires.profile) in
    rw c.prep.ensures (limits_covered c.args.self.now.land.graph _ c.args.self.now.limits c.args.profile c.in_ok-place.place c.in-Publish.prep c.requires.before.limits
    (in_slot_by c.args.self.now.land.graph _ c.args.profile c.in_ok-place.place c.entry.result.now c.in-Publish.prep slot c.entry.ensures c.in-Publish.is))
