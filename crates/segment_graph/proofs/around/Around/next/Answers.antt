use Rattle.std.proofs.Common.{◌*◌, ◌<◌, length, arith}
use Rattle.segment_graph.specs.Rows.{tower_by}
use Rattle.segment_graph.proofs.Listing.{list_from_more, next_below}
use Rattle.segment_graph.proofs.around.Around.next.Goals as goal

pub invariant_of-self : goal.invariant_of-self
invariant_of-self c =
    let rows = c.self.inside.links.now.rows in
    next_below (tower_by rows) c.self.inside.link c.behind-self-inside.result (2 * length rows) c.behind-self-inside.ensures c.self.invariant

pub returns-clause-some : goal.returns-clause-some
returns-clause-some c =
    let some : 0 < c.self.inside.link = omega arith in
    list_from_more (tower_by c.self.inside.links.now.rows) c.self.inside.link c.behind-self-inside.result c.args.self.now c.self.view_is some c.behind-self-inside.ensures
