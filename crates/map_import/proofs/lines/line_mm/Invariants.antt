use Rattle.std.proofs.Common.{◌≡◌, ◌+◌, ◌-◌, ◌^◌, ◌<◌, min, length, All}
use Rattle.gh_base.specs.Places.{IsOnEarth}
use Rattle.geo_math.specs.Lengths.{line_length}
use Rattle.map_import.proofs.lines.line_mm.Given as goal

abbrev pub invariant-loop-left : goal.invariant-loop-left
invariant-loop-left l = (min (l.mm + line_length l.left) (2 ^ 64 - 1) ≡ min (line_length l.points) (2 ^ 64 - 1)) × All IsOnEarth l.left × (l.mm < 2 ^ 64)

abbrev pub decreases-loop-left : goal.decreases-loop-left
decreases-loop-left l = length l.left
