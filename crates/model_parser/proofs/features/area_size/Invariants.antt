use Rattle.std.proofs.Common.{◌≡◌, ◌+◌, ◌-◌, ◌^◌, ◌≤◌, min, drop, length}
use Rattle.std.specs.List.{sum_by}
use Rattle.model_parser.specs.Features as spec
use Rattle.model_parser.proofs.features.area_size.Given as goal

abbrev pub invariant-loop-ring : goal.invariant-loop-ring
invariant-loop-ring l = record {
  total : min (l.size + sum_by length (drop l.ring-index l.area.rings)) (2 ^ 64 - 1) ≡ min (spec.area_size l.area) (2 ^ 64 - 1);
  small : l.size ≤ 2 ^ 64 - 1;
}
