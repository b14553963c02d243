use Rattle.pbf_laws.proofs.SamplesShown.{files_so}
use Rattle.pbf_laws.proofs.laws.files_are_so.Goals as goal

pub returns : goal.returns
returns c = files_so
