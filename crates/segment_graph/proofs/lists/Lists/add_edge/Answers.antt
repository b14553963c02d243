use Rattle.std.proofs.Common.{◌∙◌, arith}
use Rattle.segment_graph.proofs.Keeping.{edge_count, graph_added, kept_added, added_at}
use Rattle.segment_graph.proofs.lists.Lists.add_edge.Goals as goal

pub add_row-requires-clause-few : goal.add_row-requires-clause-few
add_row-requires-clause-few c =
    omega (arith, c.requires.few, edge_count c.args.self.now c.self.inside.places.items c.self.inside.links.rows c.self.inside.roads c.self.inside.points.items c.self.view_is)

pub invariant_of-self-in-Ok : goal.invariant_of-self-in-Ok
invariant_of-self-in-Ok c =
    kept_added c.self.inside.places.items c.self.inside.links.heads c.self.inside.links.rows c.self.inside.roads c.self.inside.points.items c.args.ends c.args.between.now c.args.values.now
    c.add_row.new.links.heads c.add_row.new.links.rows c.add_row.new.roads c.extend_from_slice.new.self.items c.self.invariant
    (added_at c.self.inside.links.heads c.self.inside.links.rows c.self.inside.roads c.self.inside.points.items c.args.ends c.args.between.now c.args.values.now
    c.add_row.new.links.heads c.add_row.new.links.rows c.add_row.new.roads c.extend_from_slice.new.self.items c.len-first.result c.len-end.result
    c.add_row.ensures.towers c.in-Ok.ensures.rows c.in-Ok.ensures.roads c.in_ok-extend_from_slice.ensures.items
    (c.len-first.ensures ∙ c.self.inside.points.ok.0) (c.len-end.ensures ∙ c.extend_from_slice.new.self.ok.0))

pub returns-in-Ok-clause-ok : goal.returns-in-Ok-clause-ok
returns-in-Ok-clause-ok c =
    graph_added c.args.self.now c.self.inside.places.items c.self.inside.links.heads c.self.inside.links.rows c.self.inside.roads c.self.inside.points.items c.args.ends c.args.between.now c.args.values.now
    c.add_row.new.links.heads c.add_row.new.links.rows c.add_row.new.roads c.extend_from_slice.new.self.items c.self.view_is c.self.invariant
    (added_at c.self.inside.links.heads c.self.inside.links.rows c.self.inside.roads c.self.inside.points.items c.args.ends c.args.between.now c.args.values.now
    c.add_row.new.links.heads c.add_row.new.links.rows c.add_row.new.roads c.extend_from_slice.new.self.items c.len-first.result c.len-end.result
    c.add_row.ensures.towers c.in-Ok.ensures.rows c.in-Ok.ensures.roads c.in_ok-extend_from_slice.ensures.items
    (c.len-first.ensures ∙ c.self.inside.points.ok.0) (c.len-end.ensures ∙ c.extend_from_slice.new.self.ok.0))
