use Rattle.traffic_core.specs.Trips.{trip_by}
use Rattle.traffic_core.proofs.Guided.{bound_between, feasible_between}
use Rattle.traffic_core.proofs.guiding.potential_between.Goals as goal

pub returns-clause-bound : goal.returns-clause-bound
returns-clause-bound g c =
    let graph = c.args.pieces.now.graph.now.lists in
    let trip = trip_by c.args.pieces.now.weighting.now (g.L.Limits.limit_of c.args.pieces.now.limits.now) graph c.args.from c.args.to in
    bound_between c.args.ground.now graph c.requires.ground c.args.prep.now c.requires.nodes c.reach.result _
    trip c.args.from c.args.to c.representative.result.0 c.representative-2.result.0 c.pick_active-active.result c.reach.ensures
    c.representative.ensures.is c.representative-2.ensures.is c.pick_active-active.ensures.active c.potential.ensures.is

pub returns-clause-feasible : goal.returns-clause-feasible
returns-clause-feasible g c =
    let graph = c.args.pieces.now.graph.now in
    feasible_between c.args.ground.now graph.lists c.requires.ground c.args.prep.now c.requires.nodes c.reach.result _
    graph.facts c.args.pieces.now.weighting.now (g.L.Limits.limit_of c.args.pieces.now.limits.now)
    c.requires.slow c.requires.profile c.requires.above c.args.from c.args.to c.reach.ensures
    c.preparations_fit.ensures c.no_hop_is_faster.ensures c.potential.ensures.feasible
