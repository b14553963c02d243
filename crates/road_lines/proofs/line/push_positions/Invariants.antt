use Rattle.std.proofs.Common.{◌≡◌, ◌++◌, drop, map, codes}
use Rattle.plain_map.specs.Printing.{listed}
use Rattle.road_lines.specs.Features.{position_text}
use Rattle.road_lines.proofs.line.push_positions.Given as goal

-- what is written, and what the positions that are left will be
abbrev pub invariant-loop-index : goal.invariant-loop-index
invariant-loop-index l = l.out.items ++ listed l.before (map position_text (drop l.index l.shape)) ≡ l.fn.out.items ++ listed (codes "[") (map position_text l.shape)
