use Rattle.weighting.specs.RoadFacts.{known_next}
use Rattle.weighting.proofs.weight_view.WeightViewRoadView.next_hop.Goals as goal

pub invariant_of-self-in-Some : goal.invariant_of-self-in-Some
invariant_of-self-in-Some g c = record {
  known = known_next c.args.self.now.graph.now.lists c.args.self.now.around c.in-Some.around c.next.new.self c.next.result c.args.self.now.known c.in-Some.is c.next.ensures.some c.next.ensures.ended;
  limited = c.args.self.now.limited;
}
