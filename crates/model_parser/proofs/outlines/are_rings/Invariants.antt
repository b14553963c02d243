use Rattle.std.proofs.Common.{◌≡◌, drop}
use Rattle.std.specs.List.{list_all}
use Rattle.model_parser.specs.Outlines.{is_ring}
use Rattle.model_parser.proofs.outlines.are_rings.Given as goal

abbrev pub invariant-loop-value : goal.invariant-loop-value
invariant-loop-value l = list_all is_ring (drop l.value-index l.values) ≡ list_all is_ring l.values
