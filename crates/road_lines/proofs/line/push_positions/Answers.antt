use Rattle.std.proofs.Common.{◌≤◌, ◌<◌, length, arith}
use Rattle.road_lines.proofs.Joins.{position_more, positions_done}
use Rattle.road_lines.proofs.line.push_positions.Goals as goal

pub loop-index-preserved : goal.loop-index-preserved
loop-index-preserved c = position_more c.args.shape.now c.loop-index.index c.get-point.result c.loop-index.out.items _ _ _ _ c.get-point.ensures c.in_ok-push_position.ensures c.as_slice-before-in-loop-index.ensures c.loop-index.invariant

pub returns : goal.returns
returns c =
    let end : length c.args.shape.now ≤ c.loop-index.index = omega arith in
    let some : 0 < length c.args.shape.now = omega arith in
    positions_done c.args.shape.now c.loop-index.index c.args.out.now.items c.loop-index.out.items _ _ end some c.loop-index.invariant c.in_ok-push.ensures.items
