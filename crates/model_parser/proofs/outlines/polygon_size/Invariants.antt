use Rattle.std.proofs.Common.{◌≡◌, ◌+◌, ◌-◌, ◌^◌, ◌≤◌, min, drop}
use Rattle.std.specs.List.{sum_by}
use Rattle.model_parser.specs.Values.{items}
use Rattle.model_parser.specs.Outlines as spec
use Rattle.model_parser.proofs.outlines.polygon_size.Given as goal

abbrev pub invariant-loop-ring : goal.invariant-loop-ring
invariant-loop-ring l = record {
  total : min (l.size + sum_by spec.ring_size (drop l.ring-index (items l.polygon))) (2 ^ 64 - 1) ≡ min (spec.polygon_size l.polygon) (2 ^ 64 - 1);
  small : l.size ≤ 2 ^ 64 - 1;
}
