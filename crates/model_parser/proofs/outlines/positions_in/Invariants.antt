use Rattle.std.proofs.Common.{◌≡◌, ◌+◌, ◌-◌, ◌^◌, ◌≤◌, min, drop}
use Rattle.std.specs.List.{sum_by}
use Rattle.model_parser.specs.Outlines as spec
use Rattle.model_parser.proofs.outlines.positions_in.Given as goal

abbrev pub invariant-loop-polygon : goal.invariant-loop-polygon
invariant-loop-polygon l = record {
  total : min (l.size + sum_by spec.polygon_size (drop l.polygon-index l.polygons)) (2 ^ 64 - 1) ≡ min (spec.positions_in l.polygons) (2 ^ 64 - 1);
  small : l.size ≤ 2 ^ 64 - 1;
}
