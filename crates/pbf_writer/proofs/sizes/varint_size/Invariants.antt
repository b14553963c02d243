use Rattle.std.proofs.Common.{length}
use Rattle.pbf_wire.specs.Put.{varint_bytes}
use Rattle.pbf_writer.proofs.Counts.{IsCounted}
use Rattle.pbf_writer.proofs.sizes.varint_size.Given as goal

abbrev pub invariant-groups : goal.invariant-groups
invariant-groups l = IsCounted l.size l.left (length (varint_bytes l.value))

abbrev pub decreases-groups : goal.decreases-groups
decreases-groups l = l.left
