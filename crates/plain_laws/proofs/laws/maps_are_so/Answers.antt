use Rattle.plain_laws.proofs.SamplesShown.{maps_so}
use Rattle.plain_laws.proofs.laws.maps_are_so.Goals as goal

pub returns : goal.returns
returns c = maps_so
