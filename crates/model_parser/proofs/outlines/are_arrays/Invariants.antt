use Rattle.std.proofs.Common.{◌≡◌, drop}
use Rattle.std.specs.List.{list_all}
use Rattle.model_parser.specs.Values.{is_array}
use Rattle.model_parser.proofs.outlines.are_arrays.Given as goal

abbrev pub invariant-loop-value : goal.invariant-loop-value
invariant-loop-value l = list_all is_array (drop l.value-index l.values) ≡ list_all is_array l.values
