use Rattle.std.proofs.Common.{◌<◌, length, arith}
use Rattle.std.proofs.lemmas.Grind.{common_steps}
use Rattle.std.proofs.lemmas.List.Elements.{All-same, All-rest}
use Rattle.gh_base.specs.declared.edges.DirEdge.{DirEdge}
use Rattle.base_graph.specs.Graphs.{around_of}
use Rattle.turn_graph.proofs.Around.{around_known}
use Rattle.turn_graph.proofs.counting.has_way.Goals as goal

pub loop-by-init : goal.loop-by-init
loop-by-init c =
    let graph = c.args.graph.now in
    record {
      rest = rw c.explore-around.ensures;
      known = All-same (λ (by : DirEdge). by.edge.0 < length graph.lists.edges) c.explore-around.result (around_of graph.lists c.args.tower.0) c.explore-around.ensures
          (around_known graph.lists c.args.tower.0 graph.facts);
    }

pub loop-by-preserved : goal.loop-by-preserved
loop-by-preserved c = record {
  rest = grind (arith, common_steps);
  known = All-rest (λ (by : DirEdge). by.edge.0 < length c.args.graph.now.lists.edges) c.in-Some.by c.next.new.self c.loop-by.around c.in-Some.ensures.some c.loop-by.invariant.known;
}
