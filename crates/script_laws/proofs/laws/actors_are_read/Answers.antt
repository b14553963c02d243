use Rattle.script_laws.proofs.HeaderLines.{actor_line_again}
use Rattle.script_laws.proofs.laws.actors_are_read.Goals as goal

pub returns : goal.returns
returns c = λ s name is new few done phase. actor_line_again s done phase name is new few
