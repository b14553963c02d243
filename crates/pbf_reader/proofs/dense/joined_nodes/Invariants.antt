use Rattle.std.proofs.Common.{◌≡◌, ◌++◌, length}
use Rattle.pbf_wire.specs.Dense.{nodes_of}
use Rattle.pbf_reader.proofs.dense.joined_nodes.Given as goal

abbrev pub invariant-nodes : goal.invariant-nodes
invariant-nodes l = l.nodes ++ nodes_of l.ids_left l.lats_left l.lons_left ≡ nodes_of l.ids l.lats l.lons

abbrev pub decreases-nodes : goal.decreases-nodes
decreases-nodes l = length l.ids_left
