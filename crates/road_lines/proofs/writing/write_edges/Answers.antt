use Rattle.std.proofs.Common.{◌<◌, ◌≤◌, length, arith}
use Rattle.plain_map.proofs.Sent.{on_err, front_sent, front_more, sends_more}
use Rattle.road_lines.specs.Lines.{line_of}
use Rattle.road_lines.proofs.Numbered.{sends_number, sends_last}
use Rattle.road_lines.proofs.writing.write_edges.Goals as goal

pub returns-in_err-push_edge-clause-err : goal.returns-in_err-push_edge-clause-err
returns-in_err-push_edge-clause-err g c = on_err _ (front_sent _ _ _ _ c.loop-number.invariant.sent)

pub returns-in_err-send_block-clause-err : goal.returns-in_err-send_block-clause-err
returns-in_err-send_block-clause-err g c =
    let below : c.loop-number.number < length c.args.roads.now.graph.lists.edges = omega arith in
    let sent = sends_number (line_of c.args.roads.now c.args.ways.now) (length c.args.roads.now.graph.lists.edges) c.loop-number.number _ _ _ c.loop-number.waiting.items c.push_edge.new.out.items below c.in_ok-push_edge.ensures c.loop-number.invariant.sent in
    on_err _ (front_more _ _ _ _ _ _ sent c.in_err-send_block.ensures.err)

pub loop-number-preserved : goal.loop-number-preserved
loop-number-preserved g c =
    let below : c.loop-number.number < length c.args.roads.now.graph.lists.edges = omega arith in
    let sent = sends_number (line_of c.args.roads.now c.args.ways.now) (length c.args.roads.now.graph.lists.edges) c.loop-number.number _ _ _ c.loop-number.waiting.items c.push_edge.new.out.items below c.in_ok-push_edge.ensures c.loop-number.invariant.sent in
    record { sent = sends_more _ _ _ _ _ _ _ sent c.in_ok-send_block.ensures.ok; later = omega (arith, c.loop-number.invariant.later, c.in_ok-send_block.ensures.cause.later) }

pub returns-clause-ok : goal.returns-clause-ok
returns-clause-ok g c =
    let end : length c.args.roads.now.graph.lists.edges ≤ c.loop-number.number = omega arith in
    sends_last (line_of c.args.roads.now c.args.ways.now) (length c.args.roads.now.graph.lists.edges) c.loop-number.number _ _ _ c.loop-number.waiting.items end c.loop-number.invariant.sent
