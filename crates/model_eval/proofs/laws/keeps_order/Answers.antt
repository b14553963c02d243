use Rattle.model_eval.proofs.Order.{run_keeps}
use Rattle.model_eval.proofs.laws.keeps_order.Goals as goal

pub returns : goal.returns
returns c = run_keeps
