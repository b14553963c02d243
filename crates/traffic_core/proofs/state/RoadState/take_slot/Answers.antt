use Rattle.std.proofs.Common.{◌≡◌, ap, rules, IsTrue, false}
use Rattle.traffic_core.specs.Standing.{State}
use Rattle.traffic_core.proofs.StandsAfter.{limits_after_publish, slots_after_publish, slots_after_vain_publish}
use Rattle.traffic_core.proofs.state.RoadState.take_slot.Goals as goal

pub returns-then-is_covered-clause-taken : goal.returns-then-is_covered-clause-taken
returns-then-is_covered-clause-taken c h entry what stands =
    let len : c.set_slot.inside.len ≡ c.args.self.now.len = ap (λ (s : State). s.len) c.set_slot.view_is in
    rw (c.set_slot-then-is_covered.ensures, c.profile.ensures, len) (record {
      limits = limits_after_publish c.args.self.now.land.graph h c.args.self.now.limits entry c.args.prep.now what stands.limits;
      slots = slots_after_publish c.args.self.now.land h c.args.self.now.limits c.args.self.now.slots c.args.self.now.len entry c.args.prep.now what c.requires.on_land.0
          stands.limits stands.slots stands.len (c.if-is_covered.ensures.0 (search rules));
    })

pub returns-else-is_covered-clause-taken : goal.returns-else-is_covered-clause-taken
returns-else-is_covered-clause-taken c h entry what stands = record {
  limits = limits_after_publish c.args.self.now.land.graph h c.args.self.now.limits entry c.args.prep.now what stands.limits;
  slots = slots_after_vain_publish c.args.self.now.land h c.args.self.now.limits c.args.self.now.slots entry c.args.prep.now what stands.limits stands.slots
      (λ nowhere. let t : IsTrue false = c.if-is_covered.ensures.1 nowhere in absurd (search rules));
}
