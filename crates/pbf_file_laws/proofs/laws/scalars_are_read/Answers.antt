use Rattle.pbf_file_laws.proofs.Says.{scalars}
use Rattle.pbf_file_laws.proofs.laws.scalars_are_read.Goals as goal

pub returns : goal.returns
returns c = λ bytes content at entries number stands written. scalars bytes content at entries number stands written
