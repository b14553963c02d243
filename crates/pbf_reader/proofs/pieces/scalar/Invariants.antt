use Rattle.std.proofs.Common.{◌≡◌, None, drop}
use Rattle.pbf_wire.specs.Pieces.{scalar_of}
use Rattle.pbf_reader.proofs.pieces.scalar.Given as goal

abbrev pub invariant-loop-spot : goal.invariant-loop-spot
invariant-loop-spot l = scalar_of l.number l.found (drop l.spot-index l.fields) ≡ scalar_of l.number None l.fields
