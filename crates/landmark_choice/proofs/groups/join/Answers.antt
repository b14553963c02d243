use Rattle.std.proofs.Common.{arith}
use Rattle.landmark_choice.proofs.Halving.{second_under, first_under}
use Rattle.landmark_choice.proofs.groups.join.Goals as goal

pub returns-then-first-second-clause-merged : goal.returns-then-first-second-clause-merged
returns-then-first-second-clause-merged c = λ leader h.
    let once = c.find-first.ensures.same leader h in
    let twice = c.find-second.ensures.same leader once in
    second_under c.find-second.new.above leader c.args.first c.args.second c.find-first.result c.find-second.result twice (omega arith) (omega arith) (c.find-first.ensures.leader leader h) (c.find-second.ensures.leader leader once) c.if-first-second.true

pub returns-else-first-second-clause-merged : goal.returns-else-first-second-clause-merged
returns-else-first-second-clause-merged c = λ leader h.
    let once = c.find-first.ensures.same leader h in
    let twice = c.find-second.ensures.same leader once in
    first_under c.find-second.new.above leader c.args.first c.args.second c.find-first.result c.find-second.result twice (omega arith) (omega arith) (c.find-first.ensures.leader leader h) (c.find-second.ensures.leader leader once) c.if-first-second.false
