use Rattle.std.proofs.Common.{◌≡◌, ◌+◌, [], drop, length}
use Rattle.model_parser.specs.Features as spec
use Rattle.model_parser.proofs.features.features_from.Given as goal

abbrev pub invariant-loop-feature : goal.invariant-loop-feature
invariant-loop-feature l = record {
  read : spec.features_from l.item l.found (drop l.feature-index l.features) ≡ spec.features_from 1 [] l.features;
  count : l.item ≡ l.feature-index + 1;
  size : length l.found ≡ l.feature-index;
}
