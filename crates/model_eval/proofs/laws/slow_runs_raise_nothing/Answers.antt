use Rattle.model_eval.proofs.Order.{run_slows}
use Rattle.model_eval.proofs.laws.slow_runs_raise_nothing.Goals as goal

pub returns : goal.returns
returns c = run_slows
