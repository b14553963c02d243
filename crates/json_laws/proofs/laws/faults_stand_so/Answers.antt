use Rattle.json_laws.proofs.SamplesShown.{faults_so}
use Rattle.json_laws.proofs.laws.faults_stand_so.Goals as goal

pub returns : goal.returns
returns c = faults_so
