use Rattle.std.proofs.Common.{sym, ◌∙◌}
use Rattle.segment_graph.proofs.Keeping.{edge_count}
use Rattle.segment_graph.proofs.lists.Lists.edge_count.Goals as goal

pub returns : goal.returns
returns c =
    c.len.ensures.len ∙ sym (edge_count c.args.self.now c.self.inside.places.items c.self.inside.links.rows c.self.inside.roads c.self.inside.points.items c.self.view_is)
