use Rattle.std.proofs.Common.{◌≡◌, ◌++◌, drop}
use Rattle.pbf_wire.specs.Pieces.{pieces_of}
use Rattle.pbf_reader.proofs.pieces.pieces.Given as goal

abbrev pub invariant-loop-spot : goal.invariant-loop-spot
invariant-loop-spot l = l.found ++ pieces_of l.number (drop l.spot-index l.fields) ≡ pieces_of l.number l.fields
