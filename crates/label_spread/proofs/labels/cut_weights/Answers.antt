use Rattle.std.proofs.Common.{◌^◌, arith}
use Rattle.label_spread.proofs.Nearest.{labels_right}
use Rattle.label_spread.proofs.labels.cut_weights.Goals as goal

pub returns-clause-each : goal.returns-clause-each
returns-clause-each c = λ network from reach. labels_right network (2 ^ 62) from c.args.explored.now c.loop-node.labels (omega arith) (λ node l. c.loop-node.invariant.each node (omega arith)) reach
