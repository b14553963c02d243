use Rattle.traffic_core.specs.History.{limit_in}
use Rattle.traffic_core.specs.Truth.{network_at}
use Rattle.traffic_share.proofs.PreparationsAfter.{network_is, made_of, turned_as, barred_of}
use Rattle.traffic_share.proofs.seat.preparing.make_over.Goals as goal

pub make_of-requires-clause-turned : goal.make_of-requires-clause-turned
make_of-requires-clause-turned g c κs within =
    turned_as _ _ _ _ c.new-out.ensures.network c.new-back.ensures.network
    (c.sides_are_turned.ensures c.new-weighting.result (limit_in c.new-listed.result.list.now) c.graph-graph.result.now.lists c.graph-graph.result.now.facts)

pub returns-clause-prep : goal.returns-clause-prep
returns-clause-prep g c =
    let same = network_is c.args.ground.now c.args.profile c.profile.result.now c.new-weighting.result (limit_in c.new-listed.result.list.now) (limit_in c.args.limits.now) c.graph-graph.result.now.lists _
    c.new-out.ensures.network c.new-weighting.ensures c.profile.ensures.profile c.new-listed.ensures.limits c.graph-graph.ensures in
    made_of c.in_ok-made.made _ (network_at c.args.ground.now c.args.profile (limit_in c.args.limits.now)) c.args.count same c.in_ok-made.ensures.prep

pub returns-clause-none : goal.returns-clause-none
returns-clause-none g c = λ none.
    let same = network_is c.args.ground.now c.args.profile c.profile.result.now c.new-weighting.result (limit_in c.new-listed.result.list.now) (limit_in c.args.limits.now) c.graph-graph.result.now.lists _
    c.new-out.ensures.network c.new-weighting.ensures c.profile.ensures.profile c.new-listed.ensures.limits c.graph-graph.ensures in
    barred_of c.in_ok-made.made _ (network_at c.args.ground.now c.args.profile (limit_in c.args.limits.now)) same none c.in_ok-made.ensures.none
