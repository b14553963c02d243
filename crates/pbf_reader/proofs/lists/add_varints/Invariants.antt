use Rattle.std.proofs.Common.{◌-◌, length}
use Rattle.pbf_wire.specs.Lists.{both, varints_of}
use Rattle.pbf_reader.proofs.Varints.{IsFront}
use Rattle.pbf_reader.proofs.lists.add_varints.Given as goal

abbrev pub invariant-values : goal.invariant-values
invariant-values l = IsFront l.key l.bytes l.next l.out (both l.fn.out (varints_of l.key l.bytes l.at))

abbrev pub decreases-values : goal.decreases-values
decreases-values l = length l.bytes - l.next
