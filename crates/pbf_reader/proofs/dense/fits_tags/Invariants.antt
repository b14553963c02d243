use Rattle.std.proofs.Common.{◌≡◌}
use Rattle.pbf_wire.specs.Dense.{tags_fit}
use Rattle.pbf_reader.proofs.dense.fits_tags.Given as goal

abbrev pub invariant-nodes : goal.invariant-nodes
invariant-nodes l = tags_fit l.nodes l.left ≡ tags_fit l.count l.numbers

abbrev pub decreases-nodes : goal.decreases-nodes
decreases-nodes l = l.nodes
