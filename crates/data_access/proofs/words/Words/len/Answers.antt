use Rattle.std.proofs.Common.{length, ap, arith}
use Rattle.data_access.proofs.InSegments.{length-words_in}
use Rattle.data_access.proofs.words.Words.len.Goals as goal

pub returns-clause-len : goal.returns-clause-len
returns-clause-len c =
    omega (arith, length-words_in 262144 c.self.inside.segments.items c.self.invariant.full, ap length c.self.view_is, c.self.inside.segments.ok.0)
