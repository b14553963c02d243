use Rattle.std.proofs.Common.{◌≡◌, ◌+◌, ◌-◌, ◌^◌, ◌≤◌, min, drop}
use Rattle.std.specs.List.{sum_by}
use Rattle.model_parser.specs.Features as spec
use Rattle.model_parser.proofs.features.positions_of.Given as goal

abbrev pub invariant-loop-area : goal.invariant-loop-area
invariant-loop-area l = record {
  total : min (l.size + sum_by spec.area_size (drop l.area-index l.areas)) (2 ^ 64 - 1) ≡ min (spec.positions_of l.areas) (2 ^ 64 - 1);
  small : l.size ≤ 2 ^ 64 - 1;
}
