use Rattle.std.proofs.Common.{refl, ap, ◌∙◌, arith}
use Rattle.base_graph.specs.declared.graph.EdgeEnds.{EdgeEnds}
use Rattle.base_graph.specs.Graphs.{Edge}
use Rattle.segment_graph.proofs.Keeping.{edge_count, edge_there}
use Rattle.segment_graph.proofs.lists.Lists.ends.Goals as goal

pub ends-requires : goal.ends-requires
ends-requires c =
    omega (arith, c.requires, edge_count c.args.self.now c.self.inside.places.items c.self.inside.links.rows c.self.inside.roads c.self.inside.points.items c.self.view_is)

pub returns : goal.returns
returns c =
    let there = edge_there c.args.self.now c.self.inside.places.items c.self.inside.links.rows c.self.inside.roads c.self.inside.points.items c.args.edge.0 _ c.self.view_is c.requires refl in
    record {
      base = ap (λ (ends : EdgeEnds). ends.base) c.ends.ensures ∙ ap (λ (edge : Edge). edge.base) there;
      adjacent = ap (λ (ends : EdgeEnds). ends.adjacent) c.ends.ensures ∙ ap (λ (edge : Edge). edge.adjacent) there;
      mm = ap (λ (ends : EdgeEnds). ends.mm) c.ends.ensures ∙ ap (λ (edge : Edge). edge.mm) there;
    }
