-- What is stored is what clauses see, field by field.
use Rattle.encoded_values.specs.Values.{Values}
use Rattle.encoded_values.specs.declared.edge_values.DirValues.TheInside.{Inside}

abbrev pub values_of : Inside → Values
values_of a = record {
  road_class = a.road_class;
  road_class_link = a.road_class_link;
  roundabout = a.roundabout;
  surface = a.surface;
  toll = a.toll;
  lanes = a.lanes;
  max_speed = a.max_speed;
  car_access = a.car_access;
  bike_access = a.bike_access;
  foot_access = a.foot_access;
  car_speed = a.car_speed;
  bike_speed = a.bike_speed;
  foot_speed = a.foot_speed;
}

abbrev pub fields_of : Values → Inside
fields_of v = record {
  road_class = v.road_class;
  road_class_link = v.road_class_link;
  roundabout = v.roundabout;
  surface = v.surface;
  toll = v.toll;
  lanes = v.lanes;
  max_speed = v.max_speed;
  car_access = v.car_access;
  bike_access = v.bike_access;
  foot_access = v.foot_access;
  car_speed = v.car_speed;
  bike_speed = v.bike_speed;
  foot_speed = v.foot_speed;
}
