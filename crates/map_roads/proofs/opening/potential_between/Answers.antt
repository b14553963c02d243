use Rattle.std.proofs.Common.{subst}
use Rattle.base_graph.specs.Graphs.{Graph, IsGraph}
use Rattle.map_roads.proofs.Guiding.{feasible_between}
use Rattle.map_roads.proofs.opening.potential_between.Goals as goal

pub returns-clause-feasible : goal.returns-clause-feasible
returns-clause-feasible c =
    feasible_between c.args.ground.now c.args.prep.now c.requires.prep.0 c.requires.prep.1
    (subst (λ (graph : Graph). IsGraph graph) c.graph.ensures c.graph.result.now.facts) c.preparations_are_one.ensures.nodes
    c.preparations_fit.ensures c.no_hop_is_faster.ensures c.args.to _ c.potential.ensures.feasible
