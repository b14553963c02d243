use Rattle.std.proofs.Common.{◌≡◌, ◌++◌, drop}
use Rattle.pbf_wire.specs.Pieces.{joined_of}
use Rattle.pbf_reader.proofs.pieces.join.Given as goal

abbrev pub invariant-loop-piece : goal.invariant-loop-piece
invariant-loop-piece l = l.joined.items ++ joined_of l.bytes (drop l.piece-index l.pieces) ≡ joined_of l.bytes l.pieces
