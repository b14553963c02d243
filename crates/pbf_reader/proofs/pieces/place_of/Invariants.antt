use Rattle.std.proofs.Common.{◌≡◌, drop}
use Rattle.pbf_wire.specs.Pieces.{place_in}
use Rattle.pbf_reader.proofs.pieces.place_of.Given as goal

abbrev pub invariant-loop-piece : goal.invariant-loop-piece
invariant-loop-piece l = place_in (drop l.piece-index l.pieces) l.left ≡ place_in l.pieces l.offset
