use Rattle.query_laws.proofs.SamplesShown.{faults_so}
use Rattle.query_laws.proofs.laws.line_faults_are_so.Goals as goal

pub returns : goal.returns
returns c = faults_so
