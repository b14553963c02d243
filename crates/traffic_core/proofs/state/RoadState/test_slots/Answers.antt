use Rattle.std.proofs.Common.{◌≡◌, ◌≢◌, ◌<◌, ◌+◌, length, None, subst, sym, ap, ◌∙◌, arith}
use Rattle.std.specs.Prelude.{slice_set}
use Rattle.std.proofs.lemmas.List.{length-set, get_or-set_other}
use Rattle.traffic_core.specs.Standing.{State}
use Rattle.traffic_core.proofs.StandsAfter.{tested_slot}
use Rattle.traffic_core.proofs.state.RoadState.test_slots.Invariants.{AreTestedBelow}
use Rattle.traffic_core.proofs.state.RoadState.test_slots.Goals as goal

pub loop-profile-preserved : goal.loop-profile-preserved
loop-profile-preserved g c =
    let now = c.loop-profile.self in
    let kept = c.kept_slot-kept.result in
    let profile = c.loop-profile.profile in
    let invariant = c.loop-profile.invariant in
    let profiles : length c.profiles.result.now ≡ length c.args.self.now.land.profiles = (rw c.profiles.ensures (ap (λ (s : State). length s.land.profiles) c.self.view_is)) in
    let same : length now.land.profiles ≡ length c.args.self.now.land.profiles = ap (λ (s : State). length s.land.profiles) invariant.same in
    let within : profile < length now.slots = omega (arith, invariant.len) in
    subst (λ (s : State). AreTestedBelow (g.E.Entries.entries c.args.before.now) c.args.by c.args.speed c.args.self.now s (profile + 1)) (sym c.set_slot.ensures) (record {
      same = ap (λ (s : State). record s { slots = slice_set now.slots profile kept }) invariant.same;
      len = length-set now.slots profile kept ∙ invariant.len;
      rest = λ p from below. let other : p ≢ profile = omega arith in rw (get_or-set_other now.slots profile p kept None other) (invariant.rest p (omega arith) below);
      tested = λ entry is p lt. tested_slot now.land.graph _ now.slots profile p kept within (invariant.tested entry is) (c.kept_slot-kept.ensures entry is) lt;
    })

pub returns-clause-slots : goal.returns-clause-slots
returns-clause-slots g c entry is =
    let invariant = c.loop-profile.invariant in
    let profiles : length c.profiles.result.now ≡ length c.args.self.now.land.profiles = (rw c.profiles.ensures (ap (λ (s : State). length s.land.profiles) c.self.view_is)) in
    let same : length c.loop-profile.self.land.profiles ≡ length c.args.self.now.land.profiles = ap (λ (s : State). length s.land.profiles) invariant.same in
    record { count = invariant.len; each = λ p below. invariant.tested entry is p (omega arith) }
