-- The snap of a point on a line: where the line is nearest to it. The rule is this project's own.
use Rattle.std.specs.Prelude.{◌≡◌, ℕ, ◌+◌, ◌-◌, ◌≤◌, ◌<◌, pos, List, take, length, slice_index_or}
use Rattle.gh_base.specs.declared.map.Point.{Point}
use Rattle.geo_math.specs.declared.foot.Snap.{Snap}
use Rattle.geo_math.specs.Foot.{foot}
use Rattle.geo_math.specs.Lengths.{line_length}

abbrev pub point_at : List Point → ℕ → Point
point_at points k = slice_index_or points k (record { lat = pos 0; lon = pos 0 })

-- the foot of p on a segment of a line: segment k runs from point k to the next
abbrev pub foot_at : Point → List Point → ℕ → Snap
foot_at p points k = foot p (point_at points k) (point_at points (k + 1))

-- the snap of p on the first segments of a line: its foot on the nearest of them, the first on a tie, behind the segments before
pub record IsSnapAmong (p : Point) (points : List Point) (segments : ℕ) (snap : Snap) : Type 0 where
  pub segment : ℕ
  pub there : segment < segments
  pub place : snap.place ≡ line_length (take (segment + 1) points) + (foot_at p points segment).place
  pub dist2 : snap.dist2 ≡ (foot_at p points segment).dist2
  pub least : (k : ℕ) → k < segments → snap.dist2 ≤ (foot_at p points k).dist2
  pub first : (k : ℕ) → k < segment → snap.dist2 < (foot_at p points k).dist2

-- the number of segments of a line
abbrev pub segments : List Point → ℕ
segments points = length points - 1

-- the snap of p on the whole line
abbrev pub IsSnap : Point → List Point → Snap → Type 0
IsSnap p points snap = IsSnapAmong p points (segments points) snap
