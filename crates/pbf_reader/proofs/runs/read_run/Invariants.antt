use Rattle.std.proofs.Common.{◌-◌, length}
use Rattle.pbf_wire.specs.Runs.{run_of}
use Rattle.pbf_reader.proofs.Fields.{IsFront}
use Rattle.pbf_reader.proofs.runs.read_run.Given as goal

abbrev pub invariant-fields : goal.invariant-fields
invariant-fields l = IsFront l.bytes l.next l.fields (run_of l.bytes l.at)

abbrev pub decreases-fields : goal.decreases-fields
decreases-fields l = length l.bytes - l.next
