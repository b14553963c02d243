use Rattle.std.proofs.Common.{arith}
use Rattle.plain_map.specs.Printing.{way_text}
use Rattle.plain_map.proofs.Sent.{on_err, front_sent, front_more, sends_more, sends_item}
use Rattle.plain_map.proofs.printing.print_ways.Goals as goal

pub returns-in_err-push_way-clause-err : goal.returns-in_err-push_way-clause-err
returns-in_err-push_way-clause-err g c = on_err _ (front_sent _ _ _ _ c.loop-way.invariant.sent)

pub returns-in_err-send_block-clause-err : goal.returns-in_err-send_block-clause-err
returns-in_err-send_block-clause-err g c =
    let sent = sends_item way_text c.args.ways.now c.loop-way.way-index c.way-item.result _ _ _ c.loop-way.waiting.items c.push_way.new.out.items c.loop-way-test.true c.way-item.is c.in_ok-push_way.ensures c.loop-way.invariant.sent in
    on_err _ (front_more _ _ _ _ _ _ sent c.in_err-send_block.ensures.err)

pub loop-way-preserved : goal.loop-way-preserved
loop-way-preserved g c =
    let sent = sends_item way_text c.args.ways.now c.loop-way.way-index c.way-item.result _ _ _ c.loop-way.waiting.items c.push_way.new.out.items c.loop-way-test.true c.way-item.is c.in_ok-push_way.ensures c.loop-way.invariant.sent in
    record { sent = sends_more _ _ _ _ _ _ _ sent c.in_ok-send_block.ensures.ok; later = omega (arith, c.loop-way.invariant.later, c.in_ok-send_block.ensures.cause.later) }
