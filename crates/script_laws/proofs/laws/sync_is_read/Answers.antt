use Rattle.script_laws.proofs.HeaderLines.{sync_line_again}
use Rattle.script_laws.proofs.laws.sync_is_read.Goals as goal

pub returns : goal.returns
returns c = λ s. sync_line_again s
