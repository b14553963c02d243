use Rattle.script_laws.proofs.HeaderLines.{journal_line_again}
use Rattle.script_laws.proofs.laws.journal_is_read.Goals as goal

pub returns : goal.returns
returns c = λ s entries none done phase low high. journal_line_again s done phase entries none low high
