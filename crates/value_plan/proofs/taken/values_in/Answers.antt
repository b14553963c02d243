use Rattle.std.proofs.Common.{sym, subst}
use Rattle.encoded_values.specs.Values.{Values, AreInRange}
use Rattle.value_plan.specs.Road.{HoldsAlong}
use Rattle.value_plan.proofs.OneRoad.{same}
use Rattle.value_plan.proofs.taken.values_in.Goals as goal

pub invariant_of-result : goal.invariant_of-result
invariant_of-result c =
    let found : Values = record {
      road_class = c.shared_value-road_class.result;
      road_class_link = c.shared_flag-road_class_link.result;
      roundabout = c.shared_flag-roundabout.result;
      surface = c.shared_value-surface.result;
      toll = c.shared_value-toll.result;
      lanes = c.shared_value-lanes.result;
      max_speed = c.shared_value-max_speed.result;
      car_access = c.flag-car_access.result;
      bike_access = c.flag-bike_access.result;
      foot_access = c.flag-foot_access.result;
      car_speed = c.speed-car_speed.result;
      bike_speed = c.speed-bike_speed.result;
      foot_speed = c.speed-foot_speed.result;
    } in
    let held : HoldsAlong c.args.number found c.args.reverse = record {
      road_class = sym c.shared_value-road_class.ensures;
      road_class_link = sym c.shared_flag-road_class_link.ensures;
      roundabout = sym c.shared_flag-roundabout.ensures;
      surface = sym c.shared_value-surface.ensures;
      toll = sym c.shared_value-toll.ensures;
      lanes = sym c.shared_value-lanes.ensures;
      max_speed = sym c.shared_value-max_speed.ensures;
      car_access = sym c.flag-car_access.ensures;
      bike_access = sym c.flag-bike_access.ensures;
      foot_access = sym c.flag-foot_access.ensures;
      car_speed = sym c.speed-car_speed.ensures;
      bike_speed = sym c.speed-bike_speed.ensures;
      foot_speed = sym c.speed-foot_speed.ensures;
    } in
    subst AreInRange (sym (same c.args.number c.args.reverse found c.requires.0 held c.requires.2)) c.requires.1

pub returns : goal.returns
returns c = λ values holds.
    let found : Values = record {
      road_class = c.shared_value-road_class.result;
      road_class_link = c.shared_flag-road_class_link.result;
      roundabout = c.shared_flag-roundabout.result;
      surface = c.shared_value-surface.result;
      toll = c.shared_value-toll.result;
      lanes = c.shared_value-lanes.result;
      max_speed = c.shared_value-max_speed.result;
      car_access = c.flag-car_access.result;
      bike_access = c.flag-bike_access.result;
      foot_access = c.flag-foot_access.result;
      car_speed = c.speed-car_speed.result;
      bike_speed = c.speed-bike_speed.result;
      foot_speed = c.speed-foot_speed.result;
    } in
    let held : HoldsAlong c.args.number found c.args.reverse = record {
      road_class = sym c.shared_value-road_class.ensures;
      road_class_link = sym c.shared_flag-road_class_link.ensures;
      roundabout = sym c.shared_flag-roundabout.ensures;
      surface = sym c.shared_value-surface.ensures;
      toll = sym c.shared_value-toll.ensures;
      lanes = sym c.shared_value-lanes.ensures;
      max_speed = sym c.shared_value-max_speed.ensures;
      car_access = sym c.flag-car_access.ensures;
      bike_access = sym c.flag-bike_access.ensures;
      foot_access = sym c.flag-foot_access.ensures;
      car_speed = sym c.speed-car_speed.ensures;
      bike_speed = sym c.speed-bike_speed.ensures;
      foot_speed = sym c.speed-foot_speed.ensures;
    } in
    same c.args.number c.args.reverse found values held holds
