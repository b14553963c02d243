use Rattle.pbf_laws.proofs.Varints.{zigzag}
use Rattle.pbf_laws.proofs.laws.signs_are_zigzag.Goals as goal

pub returns : goal.returns
returns c = zigzag
