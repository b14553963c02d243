-- Lengths on the earth, in whole numbers: coordinates in 1e-7 degree, lengths in mm. The rule is this project's own.
use Rattle.std.specs.Prelude.{ℕ, zero, suc, ◌+◌, ◌-◌, ◌*◌, ◌/◌, ◌≤◌, ◌<◌, nat_le, ℤ, pos, neg_ℤ, ◌+ℤ◌, ◌-ℤ◌, int_lt, if◌then◌else◌, List, [], ◌∷◌}
use Rattle.std.specs.Int.{int_div_euclid}
use Rattle.std.specs.Int.RustNames.{unsigned_abs}
use Rattle.gh_base.specs.declared.map.Point.{Point}

-- a number is the square root of another, rounded down: the greatest whose square isn't above it
pub record IsRoot (n r : ℕ) : Type 0 where
  pub below : r * r ≤ n
  pub above : n < (r + 1) * (r + 1)

-- the square root rounded down, counted up: it grows by one where the next square is reached
unfoldable pub root : ℕ → ℕ
root zero = zero
root (suc n) = if nat_le ((root n + 1) * (root n + 1)) (suc n) then root n + 1 else root n

-- a size with the sign of a number
abbrev pub signed_as : ℤ → ℕ → ℤ
signed_as z n = if int_lt z (pos 0) then neg_ℤ (pos n) else pos n

-- halfway between two numbers, rounded down
unfoldable pub middle : ℤ → ℤ → ℤ
middle a b = int_div_euclid (a +ℤ b) (pos 2)

-- a size at the distance m from the equator, times (A - 4 m²) / (A + m²), which is near the cosine: A is four times the square of 90 degrees
unfoldable pub scaled_size : ℕ → ℕ → ℕ
scaled_size size m = size * (3240000000000000000 - 4 * (m * m)) / (3240000000000000000 + m * m)

-- a difference of longitudes at a latitude, scaled, with its sign
unfoldable pub scaled : ℤ → ℤ → ℤ
scaled difference latitude = signed_as difference (scaled_size (unsigned_abs difference) (unsigned_abs latitude))

-- the mm of a way so far east and so far north: by Pythagoras in 1e-10 degree, of which each has 0.0111194927 mm
unfoldable pub diagonal : ℕ → ℕ → ℕ
diagonal east north = root ((east * east + north * north) * 1000000) * 111194927 / 10000000000

-- the length of a segment in mm: its difference of longitudes is scaled at the latitude halfway
unfoldable pub segment_length : Point → Point → ℕ
segment_length a b =
    diagonal (unsigned_abs (scaled (b.lon -ℤ a.lon) (middle a.lat b.lat))) (unsigned_abs (b.lat -ℤ a.lat))

-- the length of a line over points: the sum of the lengths of the segments between neighbours, in mm
abbrev pub line_length : List Point → ℕ
line_length [] = 0
line_length (a ∷ []) = 0
line_length (a ∷ b ∷ points) = segment_length a b + line_length (b ∷ points)
