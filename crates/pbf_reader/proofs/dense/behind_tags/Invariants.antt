use Rattle.std.proofs.Common.{◌≡◌, length}
use Rattle.pbf_wire.specs.Dense.{after_tags}
use Rattle.pbf_reader.proofs.dense.behind_tags.Given as goal

abbrev pub invariant-pairs : goal.invariant-pairs
invariant-pairs l = after_tags l.left ≡ after_tags l.numbers

abbrev pub decreases-pairs : goal.decreases-pairs
decreases-pairs l = length l.left
