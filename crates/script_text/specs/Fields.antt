-- What the words of a command stand for: places, edges, speeds, numbers.
use Rattle.std.specs.Prelude.{ℕ, ◌+◌, ◌-◌, ℤ, pos, negsuc, Bool, true, false, ◌&&◌, List, [], ◌∷◌, length, take, drop, Option, Some, None, ◌==◌, nat_le, nat_abs, codes, if◌then◌else◌}
use Rattle.std.specs.Str.{bytes_eq}
use Rattle.gh_base.specs.declared.map.Point.{Point}
use Rattle.gh_base.specs.declared.query.Place.{Place}
use Rattle.gh_base.specs.declared.query.Place.TheVariants.{Id, At}
use Rattle.gh_base.specs.Decimals.{◌>>=◌, natural_of, id_of, decimal_of}
use Rattle.gh_base.specs.Parts.{parts_of}
use Rattle.gh_base.specs.Places.{most_lat, most_lon}

-- what follows a letter at the front
abbrev pub behind : ℕ → List ℕ → Option (List ℕ)
behind letter [] = None
behind letter (b ∷ bytes) = if b == letter then Some bytes else None

-- in 1e-7 degree, at most so far from 0
unfoldable pub coordinate_of : ℕ → List ℕ → Option ℤ
coordinate_of most word = do
  z ← decimal_of 7 word
  if nat_le (nat_abs z) most then Some z else None

-- latitude, comma, longitude
abbrev pub point_of : List (List ℕ) → Option Place
point_of [] = None
point_of (lat ∷ []) = None
point_of (lat ∷ lon ∷ []) = do
  y ← coordinate_of most_lat lat
  x ← coordinate_of most_lon lon
  Some (At (record { lat = y; lon = x }))
point_of (lat ∷ lon ∷ more ∷ parts) = None

abbrev pub tower_of : List ℕ → Option Place
tower_of digits = do
  id ← id_of digits
  Some (Id id)

abbrev pub place_by : Option (List ℕ) → List ℕ → Option Place
place_by (Some digits) word = tower_of digits
place_by None word = point_of (parts_of 44 word)

-- n and an id, or a latitude and a longitude in degrees with a comma between
unfoldable pub place_of : List ℕ → Option Place
place_of word = place_by (behind 110 word) word

-- + along an edge, - against it
abbrev pub direction_of : List ℕ → Option Bool
direction_of word = if bytes_eq word (codes "+") then Some false else if bytes_eq word (codes "-") then Some true else None

-- an edge's number of one to nine digits, and behind it its direction
unfoldable pub edge_of : List ℕ → Option (ℕ × Bool)
edge_of word = do
  reverse ← direction_of (drop (length word - 1) word)
  n ← natural_of 9 (take (length word - 1) word)
  Some (n, reverse)

-- not below 0, and one of 32 bits
abbrev pub unsigned : ℤ → Option ℕ
unsigned (pos n) = if nat_le n 4294967295 then Some n else None
unsigned (negsuc n) = None

-- km/h with at most three places, in milli-km/h
unfoldable pub speed_of : List ℕ → Option ℕ
speed_of word = do
  z ← decimal_of 3 word
  unsigned z

-- a whole number of one to nine digits, in a range
unfoldable pub count_of : ℕ → ℕ → List ℕ → Option ℕ
count_of least most word = do
  n ← natural_of 9 word
  if nat_le least n && nat_le n most then Some n else None
