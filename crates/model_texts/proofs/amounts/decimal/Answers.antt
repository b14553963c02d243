use Rattle.model_texts.proofs.Longest.{front_is}
use Rattle.model_texts.proofs.amounts.decimal.Goals as goal

pub returns-in-Err-clause-byte : goal.returns-in-Err-clause-byte
returns-in-Err-clause-byte c = front_is c.args.places c.args.s.now c.in-Err.bad.byte c.in-Err.ensures.byte
