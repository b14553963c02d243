-- The foot of a point on a segment: where the segment is nearest to the point. The rule is this project's own, in whole numbers; a place and a square strictly inside are rounded down.
use Rattle.std.specs.Prelude.{ℕ, ◌+◌, ◌*◌, ◌/◌, ◌≤◌, ℤ, pos, ◌+ℤ◌, ◌-ℤ◌, ◌*ℤ◌, int_le, if◌then◌else◌}
use Rattle.std.specs.Int.RustNames.{unsigned_abs}
use Rattle.gh_base.specs.declared.map.Point.{Point}
use Rattle.geo_math.specs.declared.foot.Seen.{Seen}
use Rattle.geo_math.specs.declared.foot.Snap.{Snap}
use Rattle.geo_math.specs.Lengths.{scaled, segment_length}

-- where a place lies, seen from the point p: its difference of longitudes is scaled at p
unfoldable pub seen : Point → Point → Seen
seen p place = record { east = scaled (place.lon -ℤ p.lon) p.lat; north = place.lat -ℤ p.lat }

-- the step from one place to another
unfoldable pub step : Seen → Seen → Seen
step a b = record { east = b.east -ℤ a.east; north = b.north -ℤ a.north }

abbrev pub square : ℤ → ℕ
square z = unsigned_abs z * unsigned_abs z

-- the square of how far away, by Pythagoras
unfoldable pub away2 : Seen → ℕ
away2 a = square a.east + square a.north

-- how far along the step from a to b the foot lies, in parts of the step's square: the inner product of the steps from a to p and from a to b
unfoldable pub along : Seen → Seen → ℤ
along a b = pos 0 -ℤ (a.east *ℤ (step a b).east +ℤ a.north *ℤ (step a b).north)

-- twice the area of the triangle of p, a and b, with its sign
unfoldable pub area : Seen → Seen → ℤ
area a b = a.east *ℤ b.north -ℤ a.north *ℤ b.east

-- strictly inside: that part of the length, and the square of the triangle's height over the step
unfoldable pub inside : ℕ → Seen → Seen → Snap
inside length a b = record { place = length * unsigned_abs (along a b) / away2 (step a b); dist2 = square (area a b) / away2 (step a b) }

-- the foot on a segment of a length: its first end where p lies behind it, or both ends are seen at one place; its last where p lies past it
unfoldable pub foot_of : ℕ → Seen → Seen → Snap
foot_of length a b =
    if int_le (along a b) (pos 0) then record { place = 0; dist2 = away2 a }
    else if int_le (pos (away2 (step a b))) (along a b) then record { place = length; dist2 = away2 b }
    else inside length a b

-- the foot of p on the segment from a to b
unfoldable pub foot : Point → Point → Point → Snap
foot p a b = foot_of (segment_length a b) (seen p a) (seen p b)

-- no place of the earth is seen farther away
pub record IsNear (a : Seen) : Type 0 where
  pub east : unsigned_abs a.east ≤ 3600000000
  pub north : unsigned_abs a.north ≤ 1800000000

-- and no step is longer
pub record IsStep (a : Seen) : Type 0 where
  pub east : unsigned_abs a.east ≤ 7200000000
  pub north : unsigned_abs a.north ≤ 3600000000
