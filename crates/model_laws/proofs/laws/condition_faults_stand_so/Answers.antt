use Rattle.model_laws.proofs.TextsShown.{condition_faults_so}
use Rattle.model_laws.proofs.laws.condition_faults_stand_so.Goals as goal

pub returns : goal.returns
returns c = condition_faults_so
