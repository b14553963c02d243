use Rattle.std.proofs.Common.{◌∙◌, ◌*◌, ◌<◌, length, ap, arith}
use Rattle.base_graph.specs.Graphs.{Graph}
use Rattle.segment_graph.specs.Rows.{tower_by}
use Rattle.segment_graph.proofs.Listing.{link_below-le}
use Rattle.segment_graph.proofs.Keeping.{around_there}
use Rattle.segment_graph.proofs.lists.Lists.around.Goals as goal

pub new-requires : goal.new-requires
new-requires c =
    let rows = c.self.inside.links.rows in
    omega (arith, c.head.ensures, link_below-le (tower_by rows) c.args.node.0 (2 * length rows))

pub returns : goal.returns
returns c =
    let there : c.args.node.0 < length c.self.inside.places.items = omega (arith, c.requires, ap (λ (g : Graph). length g.places) c.self.view_is) in
    c.new.ensures ∙ around_there c.args.self.now c.self.inside.places.items c.self.inside.links.rows c.self.inside.roads c.self.inside.points.items c.args.node.0 c.head.result c.self.view_is there c.head.ensures
