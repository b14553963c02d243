-- Roads as a rule weighs them are over their graph's directed edges.
use Rattle.std.specs.Prelude.{ℕ, refl}
use Rattle.gh_base.specs.declared.edges.DirEdge.{DirEdge}
use Rattle.base_graph.specs.Graphs.{Graph, IsGraph}
use Rattle.base_graph.specs.Starting.{around_edge}
use Rattle.weighting.specs.declared.weight_view.Side.TheVariants.{Out}
use Rattle.weighting.specs.Rules.{Rule}
use Rattle.weighting.specs.Roads.{network_by}
use Rattle.weighting.specs.RoadFacts.{each_hop}
use Rattle.turn_graph.specs.States.{IsOver, IsOverEdge}

pub roads_are_over : (rule : Rule) (limits : DirEdge → ℕ) (graph : Graph) → IsGraph graph → IsOver graph (network_by rule limits graph)
roads_are_over rule limits graph facts = record {
  nodes = refl;
  hops = λ node hop c. each_hop Out rule limits graph node (IsOverEdge graph) (λ by b. record { is_edge = around_edge graph node by facts b; ends = refl }) hop c;
}
