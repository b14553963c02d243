use Rattle.std.proofs.Common.{Some, subst, ap}
use Rattle.base_graph.specs.Graphs.{Graph, IsGraph}
use Rattle.map_roads.specs.Opening.{guide_of}
use Rattle.both_runs.proofs.Opening.{behind_feasible, bounds_of, right_between}
use Rattle.both_runs.proofs.ends.BothEnds.answer_between.Goals as goal

pub answer_by-requires-2-clause-behind : goal.answer_by-requires-2-clause-behind
answer_by-requires-2-clause-behind c =
    let land = c.self.inside.ground.now in
    let at = rw c.in-Prep.is at c.self.invariant.guides in
    behind_feasible land c.in-Prep.prep c.self.invariant.count at (subst (λ (graph : Graph). IsGraph graph) c.graph.ensures c.graph.result.now.facts)
    c.preparations_fit.ensures c.preparations_are_one.ensures.nodes c.no_hop_is_faster.ensures c.sides_turn_along_edges.ensures _ c.args.from.0 c.new-behind.ensures.feasible

pub returns : goal.returns
returns c =
    let land = c.self.inside.ground.now in
    let at = rw c.in-Prep.is at c.self.invariant.guides in
    right_between c.args.self.now land (guide_of c.self.inside.made.now) (Some c.in-Prep.prep) c.self.view_is (ap guide_of c.in-Prep.is) c.args.from.0 c.args.to.0 _ _
    (bounds_of land c.in-Prep.prep c.self.invariant.count at c.preparations_are_one.ensures.nodes c.active_landmarks_are_one.ensures _ _ c.args.from c.args.to _
    c.potential_between-ahead.ensures.bound c.pick_active.ensures.active c.new-behind.ensures.is)
    c.answer_by-2.result c.answer_by-2.ensures
