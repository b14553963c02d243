use Rattle.json_laws.proofs.SamplesShown.{texts_so}
use Rattle.json_laws.proofs.laws.texts_are_so.Goals as goal

pub returns : goal.returns
returns c = texts_so
