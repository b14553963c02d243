use Rattle.std.proofs.Common.{length}
use Rattle.model_texts.proofs.Named.{nots_named}
use Rattle.model_texts.proofs.conditions.+alternative.Goals as goal

pub negation-returns-clause-named : goal.negation-returns-clause-named
negation-returns-clause-named t c = rw c.in_ok-nots.ensures (nots_named (length c.args.areas.now) c.in_ok-n.n c.in_ok-x.x c.in_ok-x.ensures.named)
