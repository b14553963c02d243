use Rattle.std.proofs.Common.{◌≡◌, drop}
use Rattle.pbf_wire.specs.Lists.{both, values_of}
use Rattle.pbf_reader.proofs.lists.list_of.Given as goal

abbrev pub invariant-loop-spot : goal.invariant-loop-spot
invariant-loop-spot l = both l.out (values_of l.bytes l.number (drop l.spot-index l.fields)) ≡ values_of l.bytes l.number l.fields
