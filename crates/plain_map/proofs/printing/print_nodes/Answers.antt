use Rattle.std.proofs.Common.{pos, arith}
use Rattle.plain_map.specs.Printing.{node_text}
use Rattle.plain_map.proofs.Sent.{on_err, front_sent, front_more, sends_more, sends_line}
use Rattle.plain_map.proofs.printing.print_nodes.Goals as goal

pub returns-in_err-push_node-clause-err : goal.returns-in_err-push_node-clause-err
returns-in_err-push_node-clause-err g c = on_err _ (front_sent _ _ _ _ c.loop-node.invariant.sent)

pub returns-in_err-send_block-clause-err : goal.returns-in_err-send_block-clause-err
returns-in_err-send_block-clause-err g c =
    let sent = sends_line node_text c.args.nodes.now c.loop-node.node-index (record { id = pos 0; place = record { lat = pos 0; lon = pos 0 } }) _ _ _ c.loop-node.waiting.items c.push_node.new.out.items c.loop-node-test.true c.in_ok-push_node.ensures c.loop-node.invariant.sent in
    on_err _ (front_more _ _ _ _ _ _ sent c.in_err-send_block.ensures.err)

pub loop-node-preserved : goal.loop-node-preserved
loop-node-preserved g c =
    let sent = sends_line node_text c.args.nodes.now c.loop-node.node-index (record { id = pos 0; place = record { lat = pos 0; lon = pos 0 } }) _ _ _ c.loop-node.waiting.items c.push_node.new.out.items c.loop-node-test.true c.in_ok-push_node.ensures c.loop-node.invariant.sent in
    record { sent = sends_more _ _ _ _ _ _ _ sent c.in_ok-send_block.ensures.ok; later = omega (arith, c.loop-node.invariant.later, c.in_ok-send_block.ensures.cause.later) }
