-- The four words of an edge's values. Private: what is promised stands in `Halves.antt`.
use Rattle.std.specs.Prelude.{ℕ, ◌+◌, ◌*◌, ◌==◌, Bool, true, false, nat_lt, if◌then◌else◌, List, slice_index, slice_index_or}
use Rattle.encoded_values.specs.Values.{Values, TwoValues}
use Rattle.base_graph.specs.Graphs.{no_values}
use Rattle.value_plan.specs.Slots.{value_of, number_of}
use Rattle.value_plan.specs.Road.{shared, for_each}
use Rattle.segment_graph.specs.Halves.{numbered}

-- the words of an edge's values
abbrev pub value_word : List ℕ → ℕ → ℕ → ℕ
value_word words edge index = if nat_lt index 4 then slice_index words (4 * edge + index) else 0

-- the values that a number holds in a direction
unfoldable pub held_along : ℕ → Bool → Values
held_along number reverse = record {
  road_class = value_of number (shared 0 4) reverse;
  road_class_link = value_of number (shared 4 1) reverse == 1;
  roundabout = value_of number (shared 5 1) reverse == 1;
  surface = value_of number (shared 6 4) reverse;
  toll = value_of number (shared 10 2) reverse;
  lanes = value_of number (shared 12 3) reverse;
  max_speed = value_of number (shared 15 8) reverse;
  car_access = value_of number (for_each 23 1) reverse == 1;
  bike_access = value_of number (for_each 25 1) reverse == 1;
  foot_access = value_of number (for_each 27 1) reverse == 1;
  car_speed = value_of number (for_each 29 8) reverse;
  bike_speed = value_of number (for_each 45 8) reverse;
  foot_speed = value_of number (for_each 61 8) reverse;
}

-- the values that the words of an edge hold
abbrev pub road_of : List ℕ → ℕ → TwoValues
road_of words edge = record {
  forward = held_along (number_of (value_word words edge)) false;
  reverse = held_along (number_of (value_word words edge)) true;
}

-- those of each edge
abbrev pub roads_of : List ℕ → ℕ → List TwoValues
roads_of words count = numbered (road_of words) count

-- a road by number, and its values in a direction
abbrev pub road_at : List TwoValues → ℕ → TwoValues
road_at roads edge = slice_index_or roads edge (record { forward = no_values; reverse = no_values })

abbrev pub along : TwoValues → Bool → Values
along road reverse = if reverse then road.reverse else road.forward
