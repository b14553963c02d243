use Rattle.pbf_laws.proofs.Coordinates.{rounded}
use Rattle.pbf_laws.proofs.laws.coordinates_are_rounded_down.Goals as goal

pub returns : goal.returns
returns c = λ axis value unit e. rounded axis value unit e
