use Rattle.traffic_core.proofs.Usables.{usable_more}
use Rattle.traffic_core.proofs.usable.usable_edges.Goals as goal

pub loop-profile-preserved : goal.loop-profile-preserved
loop-profile-preserved c =
    usable_more c.args.graph.now.lists c.args.profiles.now c.loop-profile.profile-index c.profile-item.result c.loop-profile.sets.items c.push.new.self.items _
    c.loop-profile-test.true c.profile-item.is c.in_ok-push.ensures.items c.loop-profile.invariant c.in_ok-usable_under.ensures
