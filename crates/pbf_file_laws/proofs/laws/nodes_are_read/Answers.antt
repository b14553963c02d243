use Rattle.pbf_file_laws.proofs.NodesRead.{node_read}
use Rattle.pbf_file_laws.proofs.laws.nodes_are_read.Goals as goal

pub returns : goal.returns
returns c = λ scale bytes content at node stands h. node_read scale bytes content at node stands h
