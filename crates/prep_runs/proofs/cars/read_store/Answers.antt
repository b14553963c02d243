use Rattle.prep_runs.proofs.CarRoads.{said_of_store}
use Rattle.prep_runs.proofs.cars.read_store.Goals as goal

pub returns-in-Err-clause-says : goal.returns-in-Err-clause-says
returns-in-Err-clause-says g c =
    rw c.status_of_store.ensures (said_of_store (g.I.Source.left c.args.store.now) c.args.ground.now c.in-Err.fault c.in-Err.ensures.first)
