use Rattle.weighting.specs.RoadFacts.{known_at_start}
use Rattle.weighting.proofs.weight_view.WeightViewRoadView.start_at.Goals as goal

pub invariant_of-self : goal.invariant_of-self
invariant_of-self g c = record {
  known = known_at_start c.args.self.now.graph.now.lists c.args.self.now.graph.now.facts c.args.node.0 c.explore.result c.explore.ensures;
  limited = c.args.self.now.limited;
}
