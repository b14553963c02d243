use Rattle.std.proofs.Common.{◌≡◌, None, drop}
use Rattle.pbf_wire.specs.Pieces.{pieces_of, last_piece}
use Rattle.pbf_reader.proofs.pieces.last_of.Given as goal

abbrev pub invariant-loop-spot : goal.invariant-loop-spot
invariant-loop-spot l = last_piece l.found (pieces_of l.number (drop l.spot-index l.fields)) ≡ last_piece None (pieces_of l.number l.fields)
