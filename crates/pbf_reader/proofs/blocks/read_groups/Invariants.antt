use Rattle.std.proofs.Common.{◌≡◌, drop}
use Rattle.pbf_wire.specs.Blocks.{groups_of}
use Rattle.pbf_reader.proofs.Joins.{joined}
use Rattle.pbf_reader.proofs.blocks.read_groups.Given as goal

abbrev pub invariant-loop-spot : goal.invariant-loop-spot
invariant-loop-spot l = joined l.out (groups_of l.bytes (drop l.spot-index l.fields)) ≡ groups_of l.bytes l.fields
