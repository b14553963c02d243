use Rattle.std.proofs.Common.{◌-◌, length}
use Rattle.pbf_wire.specs.Files.{reads}
use Rattle.pbf_reader.proofs.File.{IsLeft}
use Rattle.pbf_reader.proofs.reading.parse.Given as goal

abbrev pub invariant-blobs : goal.invariant-blobs
invariant-blobs l = IsLeft l.file l.first l.map l.at (reads l.file)

abbrev pub decreases-blobs : goal.decreases-blobs
decreases-blobs l = length l.file - l.at
