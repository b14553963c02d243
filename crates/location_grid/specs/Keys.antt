-- The order in which a grid holds points: in rows from the south pole to the north, each from west to east.
use Rattle.std.specs.Prelude.{ℕ, ◌+◌, ◌-◌, ◌*◌, ◌/◌, ◌^◌, min, ℤ, negsuc, ◌-ℤ◌, unsigned_abs}
use Rattle.gh_base.specs.declared.map.Point.{Point}

-- a latitude or longitude, counted from the least number of 32 bits up
abbrev pub raised : ℤ → ℕ
raised angle = unsigned_abs (angle -ℤ negsuc 2147483647)

-- the height at which so many rows cover an extent, as far as 32 bits hold it
abbrev pub height_of : ℕ → ℕ → ℕ
height_of extent rows = min (extent / rows + 1) (2 ^ 32 - 1)

-- the key of a point: the number of its row, and in the 32 bits below that how far east it lies
abbrev pub key_of : ℕ → Point → ℕ
key_of height point = raised point.lat / height * 2 ^ 32 + raised point.lon
