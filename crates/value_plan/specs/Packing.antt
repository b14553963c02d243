-- How the values of a road are packed into one number. Private: what is promised stands in `Road.antt`.
use Rattle.std.specs.Prelude.{ℕ, ◌+◌, ◌*◌, ◌^◌, List, [], ◌∷◌, ◌++◌}
use Rattle.std.specs.Int.{from_bool}
use Rattle.encoded_values.specs.Values.{Values, TwoValues}

-- items below a number, each a number of bits and a value, the first item lowest
abbrev pub packed_onto : List (ℕ × ℕ) → ℕ → ℕ
packed_onto [] number = number
packed_onto (item ∷ items) number = item.1 + 2 ^ item.0 * packed_onto items number

abbrev pub shared_items : Values → List (ℕ × ℕ)
shared_items v =
    (4, v.road_class) ∷ (1, from_bool v.road_class_link) ∷ (1, from_bool v.roundabout) ∷ (4, v.surface) ∷
    (2, v.toll) ∷ (3, v.lanes) ∷ (8, v.max_speed) ∷ []

abbrev pub access_items : Values → Values → List (ℕ × ℕ)
access_items f r =
    (1, from_bool f.car_access) ∷ (1, from_bool r.car_access) ∷ (1, from_bool f.bike_access) ∷
    (1, from_bool r.bike_access) ∷ (1, from_bool f.foot_access) ∷ (1, from_bool r.foot_access) ∷ []

abbrev pub speed_items : Values → Values → List (ℕ × ℕ)
speed_items f r =
    (8, f.car_speed) ∷ (8, r.car_speed) ∷ (8, f.bike_speed) ∷ (8, r.bike_speed) ∷
    (8, f.foot_speed) ∷ (8, r.foot_speed) ∷ []

abbrev pub road_items : TwoValues → List (ℕ × ℕ)
road_items t =
    shared_items t.forward ++ (access_items t.forward t.reverse ++ speed_items t.forward t.reverse)

abbrev pub road_number : TwoValues → ℕ
road_number t =
    packed_onto (shared_items t.forward)
    (packed_onto (access_items t.forward t.reverse) (packed_onto (speed_items t.forward t.reverse) 0))
