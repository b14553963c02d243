use Rattle.pbf_file_laws.proofs.NodesRead.{dense_read}
use Rattle.pbf_file_laws.proofs.laws.dense_nodes_are_read.Goals as goal

pub returns : goal.returns
returns c = λ scale bytes content pieces place nodes e h. dense_read scale bytes content pieces place nodes e h
