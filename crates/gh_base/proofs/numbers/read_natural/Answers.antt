use Rattle.std.proofs.Common.{length, arith}
use Rattle.gh_base.proofs.Digits.{below_power}
use Rattle.gh_base.proofs.numbers.read_natural.Goals as goal

pub returns-clause-small : goal.returns-clause-small
returns-clause-small c = below_power c.in_ok-n.n (length c.args.text.now) c.args.most c.in_ok-n.ensures.small (omega arith)
