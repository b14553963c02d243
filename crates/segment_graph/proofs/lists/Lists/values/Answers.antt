use Rattle.std.proofs.Common.{refl, sym, ap, ◌∙◌, subst, arith}
use Rattle.encoded_values.specs.Values.{AreInRange}
use Rattle.base_graph.specs.Graphs.{Edge, values_along}
use Rattle.segment_graph.proofs.Keeping.{edge_count, edge_there}
use Rattle.segment_graph.proofs.lists.Lists.values.Goals as goal

pub get-requires-clause-edge : goal.get-requires-clause-edge
get-requires-clause-edge c =
    omega (arith, c.requires.edge, c.self.invariant.values, edge_count c.args.self.now c.self.inside.places.items c.self.inside.links.rows c.self.inside.roads c.self.inside.points.items c.self.view_is)

pub get-requires-clause-in_range : goal.get-requires-clause-in_range
get-requires-clause-in_range c =
    let there = edge_there c.args.self.now c.self.inside.places.items c.self.inside.links.rows c.self.inside.roads c.self.inside.points.items c.args.edge.0 _ c.self.view_is c.requires.edge refl in
    subst AreInRange (sym (ap (λ (edge : Edge). values_along edge c.args.reverse) there)) c.requires.in_range

pub returns : goal.returns
returns c =
    c.get.ensures
    ∙ ap (λ (edge : Edge). values_along edge c.args.reverse)
    (edge_there c.args.self.now c.self.inside.places.items c.self.inside.links.rows c.self.inside.roads c.self.inside.points.items c.args.edge.0 _ c.self.view_is c.requires.edge refl)
