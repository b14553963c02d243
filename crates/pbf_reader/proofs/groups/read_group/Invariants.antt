use Rattle.std.proofs.Common.{◌≡◌, true, drop}
use Rattle.pbf_wire.specs.Groups.{after, messages_of}
use Rattle.pbf_reader.proofs.groups.read_group.Given as goal

abbrev pub invariant-loop-spot : goal.invariant-loop-spot
invariant-loop-spot l = after l.out (messages_of l.bytes l.dense l.first (drop l.spot-index l.fields)) ≡ messages_of l.bytes l.dense true l.fields
