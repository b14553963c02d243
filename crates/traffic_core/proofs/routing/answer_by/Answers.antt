use Rattle.std.proofs.Common.{length, ◌∙◌, ap}
use Rattle.gh_base.specs.Networks.{Network}
use Rattle.traffic_core.specs.Trips.{Trip, trip_by, trip_network, mm_between}
use Rattle.traffic_core.proofs.Among.{trip_is, right_trip}
use Rattle.traffic_core.proofs.Ends.{directs_in, walk_in_over, start_is, target_is}
use Rattle.traffic_core.proofs.routing.answer_by.Goals as goal

pub new-view-requires-clause-directs : goal.new-view-requires-clause-directs
new-view-requires-clause-directs g c =
    directs_in c.args.pieces.now.weighting.now (g.L.Limits.limit_of c.args.pieces.now.limits.now) c.args.pieces.now.graph.now.lists c.args.from c.args.to
    _ c.leave.result c.reach.result c.direct.result (ap (λ (n : Network). n.nodes) c.new-roads.ensures.network) c.leave.ensures c.reach.ensures c.direct.ensures

pub answer_over-requires-clause-over : goal.answer_over-requires-clause-over
answer_over-requires-clause-over g c = λ hops w.
    let graph = c.args.pieces.now.graph.now in
    let same = trip_is _ _ _ _ _ _ _ _ c.new-roads.ensures.network c.leave.ensures c.reach.ensures c.direct.ensures in
    walk_in_over c.args.pieces.now.weighting.now (g.L.Limits.limit_of c.args.pieces.now.limits.now) graph.lists graph.facts c.args.from c.args.to c.requires.from c.requires.to
    _ (c.new-view.ensures.network ∙ ap (λ (t : Trip). trip_network t) same) c.start_node.result.0 c.target_node.result.0 hops w

pub returns : goal.returns
returns g c =
    let rule = c.args.pieces.now.weighting.now in
    let limits = g.L.Limits.limit_of c.args.pieces.now.limits.now in
    let graph = c.args.pieces.now.graph.now.lists in
    let trip = trip_by rule limits graph c.args.from c.args.to in
    let same = trip_is _ _ _ _ _ _ _ _ c.new-roads.ensures.network c.leave.ensures c.reach.ensures c.direct.ensures in
    right_trip _ trip same _ c.start_node.result.0 c.target_node.result.0 c.new-view.ensures.network
    (start_is rule limits graph c.args.from c.args.to c.start_node.result.0 c.node_count-towers.result c.node_count-towers.ensures c.start_node.ensures)
    (target_is rule limits graph c.args.from c.args.to c.target_node.result.0 c.node_count-towers.result c.node_count-towers.ensures c.target_node.ensures)
    c.new-view.ensures.walks (g.P.Potential.bound c.args.potential.now)
    (mm_between graph c.args.from c.args.to) (length graph.places) c.args.labels c.answer_over.result c.answer_over.ensures
