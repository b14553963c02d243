use Rattle.std.proofs.Common.{◌≤◌, List, length, map}
use Rattle.gh_base.specs.declared.map.OsmNode.{OsmNode}
use Rattle.pbf_wire.specs.Writing.{blocks_text, nodes_block, nodes_parts}
use Rattle.pbf_writer.proofs.Sent.{IsSending}
use Rattle.pbf_writer.proofs.writing.write_nodes.Given as goal

-- the blocks of the nodes that are left are left to send
abbrev pub invariant-parts : goal.invariant-parts
invariant-parts g l = record {
  sending : IsSending (g.K.Sink.held l.fn.sink) (g.K.Sink.held l.sink) (blocks_text (map nodes_block (nodes_parts l.nodes))) (λ (left : List OsmNode). 8000) nodes_block l.rest;
  later : g.K.Sink.faults l.fn.sink ≤ g.K.Sink.faults l.sink;
}

abbrev pub decreases-parts : goal.decreases-parts
decreases-parts g l = length l.rest
