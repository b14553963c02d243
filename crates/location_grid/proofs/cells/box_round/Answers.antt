use Rattle.location_grid.proofs.Orders.{widened_more}
use Rattle.location_grid.proofs.cells.box_round.Goals as goal

pub places-preserved : goal.places-preserved
places-preserved c =
    let here = rw c.geometry.ensures at c.with_line-bounds.ensures.line in
    (c.with_line-bounds.ensures.earth, widened_more c.args.graph.now.lists c.args.order.now c.args.first c.places.place c.places.bounds c.with_line-bounds.result c.places.invariant.1 c.with_line-bounds.ensures.kept here)
