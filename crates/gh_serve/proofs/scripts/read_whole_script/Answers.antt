use Rattle.gh_serve.proofs.Inputs.{of_script, script_says}
use Rattle.gh_serve.proofs.scripts.read_whole_script.Goals as goal

pub returns-in-Err-clause-err : goal.returns-in-Err-clause-err
returns-in-Err-clause-err g c = script_says c.in-Err.status _ c.in-Err.ensures.early c.in-Err.ensures.err

pub returns-in-Err-clause-early : goal.returns-in-Err-clause-early
returns-in-Err-clause-early g c = of_script c.in-Err.status c.in-Err.ensures.early
