use Rattle.landmark_prep.proofs.Keeping.{packed_more}
use Rattle.landmark_prep.proofs.spreading.pack_labels.Goals as goal

pub loop-node-preserved : goal.loop-node-preserved
loop-node-preserved c =
    let more = packed_more c.args.grain c.args.labels.now c.loop-node.node c.get.result.now c.get.ensures in
    let row = c.in_ok-push.ensures.ok in
    let here = c.pack.ensures in
    let before = c.loop-node.invariant in
    cc
