use Rattle.query_laws.proofs.Reading.{queries_again}
use Rattle.query_laws.proofs.laws.queries_are_read.Goals as goal

pub returns : goal.returns
returns c = λ lines last h few. queries_again lines last h few
