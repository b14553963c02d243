use Rattle.script_laws.proofs.SamplesShown.{entries_so}
use Rattle.script_laws.proofs.laws.entries_are_so.Goals as goal

pub returns : goal.returns
returns c = entries_so
