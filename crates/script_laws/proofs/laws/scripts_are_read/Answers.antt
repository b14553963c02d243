use Rattle.script_laws.proofs.Scripts.{script_again}
use Rattle.script_laws.proofs.laws.scripts_are_read.Goals as goal

pub returns : goal.returns
returns c = λ profiles script is writable. script_again profiles script is writable
