use Rattle.script_laws.proofs.SamplesShown.{replies_so}
use Rattle.script_laws.proofs.laws.replies_are_so.Goals as goal

pub returns : goal.returns
returns c = replies_so
