use Rattle.traffic_core.proofs.Once.{spot_once, weight_once}
use Rattle.traffic_core.proofs.laws.answers_agree.Goals as goal

pub returns : goal.returns
returns c = record { spot = spot_once; weight = weight_once }
