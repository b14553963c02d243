use Rattle.pbf_writer.proofs.FitWays.{maps_again}
use Rattle.pbf_writer.proofs.law.files_are_read_again.Goals as goal

pub returns : goal.returns
returns c = maps_again
