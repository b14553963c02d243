use Rattle.model_laws.proofs.Chains.{chains_run}
use Rattle.model_laws.proofs.laws.chains_are_run.Goals as goal

pub returns : goal.returns
returns c = chains_run
