use Rattle.std.proofs.Common.{arith}
use Rattle.gh_base.proofs.Digits.{below_power}
use Rattle.gh_base.proofs.numbers.digits.Goals as goal

pub overflow_mul-n : goal.overflow_mul-n
overflow_mul-n c = omega (arith, below_power c.loop-b.n c.loop-b.b-index 17 c.loop-b.invariant.small (omega arith))

pub overflow_add-n : goal.overflow_add-n
overflow_add-n c = omega (arith, below_power c.loop-b.n c.loop-b.b-index 17 c.loop-b.invariant.small (omega arith))
