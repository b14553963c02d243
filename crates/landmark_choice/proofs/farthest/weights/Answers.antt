use Rattle.std.proofs.Common.{arith}
use Rattle.landmark_choice.proofs.Choosing.{near_explored}
use Rattle.landmark_choice.proofs.farthest.weights.Goals as goal

pub returns-clause-near : goal.returns-clause-near
returns-clause-near c = λ network from reach. near_explored network from c.args.explored.now c.loop-node.list.items (omega arith) (λ node l. c.loop-node.invariant.each node (omega arith)) reach
