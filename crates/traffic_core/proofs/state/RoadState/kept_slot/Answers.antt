use Rattle.std.proofs.Common.{Some, None, refl}
use Rattle.traffic_core.specs.History.{IsSlot}
use Rattle.traffic_core.proofs.SlotsAfter.{none_comes_back}
use Rattle.traffic_core.proofs.StandsAfter.{change_leaves, place_within, in_slot_by, slot_after_change}
use Rattle.traffic_core.proofs.state.RoadState.kept_slot.Goals as goal

pub returns-in_err-place : goal.returns-in_err-place
returns-in_err-place g c entry is =
    let none : IsSlot c.args.self.now.land.graph (g.E.Entries.entries c.args.before.now) c.args.profile None = rw (← c.in_err-place.ensures) at c.requires.before in
    rw c.from_residual.ensures (none_comes_back c.args.self.now.land.graph _ entry c.args.profile (change_leaves _ _ entry c.args.by c.args.speed c.args.profile is) none)

pub entry-requires-clause-within : goal.entry-requires-clause-within
entry-requires-clause-within g c =
    let slot : IsSlot c.args.self.now.land.graph (g.E.Entries.entries c.args.before.now) c.args.profile (Some c.in_ok-place.place) = rw (← c.in_ok-place.ensures) at c.requires.before in
    (place_within c.args.self.now.land.graph _ c.args.profile c.in_ok-place.place slot).1

pub returns : goal.returns
returns g c entry is =
    let slot : IsSlot c.args.self.now.land.graph (g.E.Entries.entries c.args.before.now) c.args.profile (Some c.in_ok-place.place) = rw (← c.in_ok-place.ensures) at c.requires.before in
    rw (c.then_some.ensures, c.listed_limit.ensures, c.snapshot.ensures, c.prep.ensures) (slot_after_change c.args.self.now.land.graph _ entry c.args.by c.args.speed c.args.profile c.in_ok-place.place c.in-Publish.prep _ is c.requires.by
    (in_slot_by c.args.self.now.land.graph _ c.args.profile c.in_ok-place.place c.entry.result.now c.in-Publish.prep slot c.entry.ensures c.in-Publish.is) refl)
