use Rattle.std.proofs.Common.{[], ◌∷◌, arith, length-append}
use Rattle.std.proofs.lemmas.List.Elements.{All-append, All-cons, All-nil}
use Rattle.location_grid.specs.Boxes.{MeetsEarth}
use Rattle.location_grid.proofs.Orders.{round_more}
use Rattle.location_grid.proofs.cells.boxes_of.Goals as goal

pub cells-preserved : goal.cells-preserved
cells-preserved c =
    let boxes = c.cells.boxes.items in
    let new = c.box_round.result in
    let count = c.cells.invariant.0 in
    let more = length-append boxes (new ∷ []) in
    rw c.in_ok-push.ensures.items (
      omega arith,
      All-append MeetsEarth boxes (new ∷ []) c.cells.invariant.1 (All-cons MeetsEarth new [] c.box_round.ensures.earth (All-nil MeetsEarth)),
      round_more c.args.graph.now.lists c.args.order.now boxes c.cells.cell new count c.cells.invariant.2 (λ place from to there. c.box_round.ensures.round place from (omega arith)),
    )
