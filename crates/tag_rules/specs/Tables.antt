-- What the tags of a way say of its kind (OSM wiki, "Key:highway", "Key:maxspeed", "Key:surface", "Key:toll", "Key:lanes").
use Rattle.std.specs.Prelude.{ℕ, ◌*◌, ◌/◌, ◌-◌, min, Bool, true, false, ◌&&◌, nat_le, ◌==◌, if◌then◌else◌, List, [], ◌∷◌, map, length, take, Option, Some, None, find, bytes_eq, codes, unwrap_or, nat_eq}
use Rattle.std.specs.List.{ends_with}
use Rattle.std.specs.Option.{option_map}
use Rattle.std.specs.Str.{str_to_ascii_lowercase}
use Prim.Native.String.{String}
use Rattle.gh_base.specs.Decimals.{natural_of}
use Rattle.encoded_values.specs.Words.{road_classes, surfaces, place_in}
use Rattle.tag_rules.specs.declared.highways.Highway.{Highway}

-- a row: the class, whether it is a link, and the speeds of cars, bikes and walkers in km/h
abbrev pub row : String → Bool → ℕ → ℕ → ℕ → Highway
row class link car bike foot = record {
  class = unwrap_or (place_in road_classes (codes class)) 0;
  link = link;
  car = car;
  bike = bike;
  foot = foot;
}

-- the speeds of highways
abbrev pub highways : List (List ℕ × Highway)
highways =
    (codes "motorway", row "MOTORWAY" false 100 0 0) ∷
    (codes "motorway_link", row "MOTORWAY" true 70 0 0) ∷
    (codes "trunk", row "TRUNK" false 70 18 5) ∷
    (codes "trunk_link", row "TRUNK" true 65 18 5) ∷
    (codes "primary", row "PRIMARY" false 65 18 5) ∷
    (codes "primary_link", row "PRIMARY" true 60 18 5) ∷
    (codes "secondary", row "SECONDARY" false 60 18 5) ∷
    (codes "secondary_link", row "SECONDARY" true 50 18 5) ∷
    (codes "tertiary", row "TERTIARY" false 50 18 5) ∷
    (codes "tertiary_link", row "TERTIARY" true 40 18 5) ∷
    (codes "unclassified", row "UNCLASSIFIED" false 30 16 5) ∷
    (codes "residential", row "RESIDENTIAL" false 30 18 5) ∷
    (codes "living_street", row "LIVING_STREET" false 5 6 5) ∷
    (codes "service", row "SERVICE" false 20 12 5) ∷
    (codes "track", row "TRACK" false 15 12 5) ∷
    (codes "path", row "PATH" false 0 10 5) ∷
    (codes "footway", row "FOOTWAY" false 0 6 5) ∷
    (codes "cycleway", row "CYCLEWAY" false 0 18 5) ∷
    (codes "pedestrian", row "PEDESTRIAN" false 0 6 5) ∷
    (codes "steps", row "STEPS" false 0 0 2) ∷
    (codes "road", row "OTHER" false 20 12 5) ∷ []

-- the row of a highway
abbrev pub highway_of : List ℕ → Option Highway
highway_of word = option_map (λ entry. entry.1) (find (λ entry. bytes_eq word entry.0) highways)

-- km/h, rounded down, of miles an hour
abbrev pub kmh_of_mph : ℕ → ℕ
kmh_of_mph n = n * 1609344 / 1000000

-- one to three digits are km/h, and with " mph" behind them miles an hour
abbrev pub kmh_of : List ℕ → Option ℕ
kmh_of text =
    if ends_with nat_eq text (codes " mph")
    then option_map kmh_of_mph (natural_of 3 (take (length text - 4) text))
    else natural_of 3 text

-- a maximum speed is at most 254 km/h; 0 says as little as no number: 255 is missing
abbrev pub max_speed_of : ℕ → ℕ
max_speed_of n = if n == 0 then 255 else min n 254

-- the maximum speed of a value of `maxspeed`
abbrev pub max_speed_by : Option (List ℕ) → ℕ
max_speed_by None = 255
max_speed_by (Some text) = max_speed_of (unwrap_or (kmh_of text) 0)

-- one to seven lanes, else one
abbrev pub lanes_of : ℕ → ℕ
lanes_of n = if nat_le 1 n && nat_le n 7 then n else 1

-- the lanes of a value of `lanes`: of one digit
abbrev pub lanes_by : Option (List ℕ) → ℕ
lanes_by None = 1
lanes_by (Some text) = lanes_of (unwrap_or (natural_of 1 text) 1)

-- the surface whose name in lower case is this value of `surface`; MISSING without one, OTHER for other values
abbrev pub surface_by : Option (List ℕ) → ℕ
surface_by None = 0
surface_by (Some word) = unwrap_or (place_in (map str_to_ascii_lowercase surfaces) word) 13

-- the toll of a value of `toll`: MISSING without one, ALL for `yes`, NO for other values
abbrev pub toll_by : Option (List ℕ) → ℕ
toll_by None = 0
toll_by (Some word) = if bytes_eq word (codes "yes") then 1 else 2
