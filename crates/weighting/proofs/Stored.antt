-- The ranges of the values of a graph's edges.
use Rattle.base_graph.specs.Facts.{values_in_range}
use Rattle.weighting.specs.SlowRoads.{ValuesAreStored}

pub values_are_stored : ValuesAreStored
values_are_stored graph facts by there =
    let range = values_in_range graph by.edge.0 by.reverse facts there in
    record { lanes = range.few_lanes; max_speed = range.max_byte; car = range.car_byte; bike = range.bike_byte; foot = range.foot_byte }
