use Rattle.std.proofs.Common.{◌≡◌, ◌*◌, ◌≤◌}
use Rattle.std.proofs.lemmas.Result.{IfOk-weaker, IfErr-weaker}
use Rattle.traffic_core.specs.Lands.{Land}
use Rattle.map_roads.specs.Cars.{car_land, size_of, IsTooMany}
use Rattle.map_roads.proofs.Counted.{map_read, cars_read, few_read, map_counted, labels_counted}
use Rattle.map_roads.proofs.cars.read_cars.Goals as goal

pub returns-clause-cars : goal.returns-clause-cars
returns-clause-cars g c =
    let roads = c.in_ok-roads.roads in
    IfOk-weaker c.cars_of.result (λ (land : Land). land ≡ car_land roads) _ (cars_read c.args.form roads _ c.in_ok-roads.ensures.map) c.cars_of.ensures.cars

pub returns-clause-map : goal.returns-clause-map
returns-clause-map g c =
    let roads = c.in_ok-roads.roads in
    IfOk-weaker c.cars_of.result (λ (land : Land). land ≡ car_land roads) _ (λ land same. map_read c.args.form roads _ c.in_ok-roads.ensures.map) c.cars_of.ensures.cars

pub returns-clause-few : goal.returns-clause-few
returns-clause-few g c =
    let roads = c.in_ok-roads.roads in
    IfOk-weaker c.cars_of.result (λ (land : Land). c.args.count * size_of (car_land roads) ≤ 150000000) _
    (λ land few. few_read c.args.form roads c.args.count _ c.in_ok-roads.ensures.map few) c.cars_of.ensures.few

pub returns-clause-err : goal.returns-clause-err
returns-clause-err g c =
    let roads = c.in_ok-roads.roads in
    IfErr-weaker c.cars_of.result (IsTooMany (c.args.count * size_of (car_land roads))) _ (map_counted c.args.form roads c.args.count _ c.in_ok-roads.ensures.map) c.cars_of.ensures.many

pub returns-clause-labels : goal.returns-clause-labels
returns-clause-labels g c =
    let roads = c.in_ok-roads.roads in
    IfErr-weaker c.cars_of.result (IsTooMany (c.args.count * size_of (car_land roads))) _ (labels_counted c.args.form roads c.args.count _ c.in_ok-roads.ensures.map) c.cars_of.ensures.many
