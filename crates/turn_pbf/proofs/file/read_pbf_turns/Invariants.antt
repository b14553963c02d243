use Rattle.std.proofs.Common.{◌-◌, length}
use Rattle.turn_pbf.proofs.Blobs.{AreLeft}
use Rattle.turn_pbf.proofs.file.read_pbf_turns.Given as goal

abbrev pub invariant-blobs : goal.invariant-blobs
invariant-blobs l = AreLeft l.file l.first l.turns l.at

abbrev pub decreases-blobs : goal.decreases-blobs
decreases-blobs l = length l.file - l.at
