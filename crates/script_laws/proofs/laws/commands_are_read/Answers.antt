use Rattle.script_laws.proofs.CommandLines.{command_line_again}
use Rattle.script_laws.proofs.laws.commands_are_read.Goals as goal

pub returns : goal.returns
returns c = λ s actor name command actors at profiles few says. command_line_again s actor name actors at few command profiles says
