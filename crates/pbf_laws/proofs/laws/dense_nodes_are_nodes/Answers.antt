use Rattle.pbf_laws.proofs.DenseRead.{dense_read}
use Rattle.pbf_laws.proofs.laws.dense_nodes_are_nodes.Goals as goal

pub returns : goal.returns
returns c = λ scale place ws ns h. dense_read scale place ws ns h
