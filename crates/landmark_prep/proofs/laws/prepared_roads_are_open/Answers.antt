use Rattle.landmark_prep.proofs.Prepared.{open_not_barred}
use Rattle.landmark_prep.proofs.laws.prepared_roads_are_open.Goals as goal

pub returns : goal.returns
returns c = λ network count prep p. open_not_barred network p.placing.some
