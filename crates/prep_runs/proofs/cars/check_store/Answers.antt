use Rattle.map_roads.specs.Cars.{car_land}
use Rattle.prep_runs.proofs.CarRoads.{told_of, front_of_told}
use Rattle.prep_runs.proofs.cars.check_store.Goals as goal

pub returns-in-Ok-tell-clause-done : goal.returns-in-Ok-tell-clause-done
returns-in-Ok-tell-clause-done g c = λ _.
    told_of c.in-Ok.ground (car_land c.args.roads) c.in-Ok.ensures c.in-Ok-read_store.prep _ _ _ c.in-Ok-read_store.ensures.stored c.in-Ok-tell.ensures.ok

pub returns-in-Err-WriteFault-clause-front : goal.returns-in-Err-WriteFault-clause-front
returns-in-Err-WriteFault-clause-front g c = λ _.
    front_of_told c.in-Ok.ground (car_land c.args.roads) c.in-Ok.ensures c.in-Ok-read_store.prep _ _ _ c.in-Ok-read_store.ensures.stored (c.in-Err-WriteFault.ensures.front (let fault = c.in-Err-WriteFault.field-0-is in cc))
