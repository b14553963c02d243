use Rattle.query_laws.proofs.Reading.{fault_again}
use Rattle.query_laws.proofs.laws.faults_stand_at_their_line.Goals as goal

pub returns : goal.returns
returns c = λ lines line rest byte kind h few clean wrong. fault_again lines line rest byte kind h few clean wrong
