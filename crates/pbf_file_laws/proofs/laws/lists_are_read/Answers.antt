use Rattle.pbf_file_laws.proofs.Says.{lists}
use Rattle.pbf_file_laws.proofs.laws.lists_are_read.Goals as goal

pub returns : goal.returns
returns c = λ bytes content at entries number numbers stands written says. lists bytes content at entries number numbers stands written says
