use Rattle.std.proofs.Common.{◌≤◌, length, map}
use Rattle.pbf_wire.specs.Writing.{blocks_text, ways_block, ways_parts, ways_count}
use Rattle.pbf_writer.proofs.Sent.{IsSending}
use Rattle.pbf_writer.proofs.writing.write_ways.Given as goal

-- the blocks of the ways that are left are left to send
abbrev pub invariant-parts : goal.invariant-parts
invariant-parts g l = record {
  sending : IsSending (g.K.Sink.held l.fn.sink) (g.K.Sink.held l.sink) (blocks_text (map ways_block (ways_parts l.ways))) ways_count ways_block l.rest;
  later : g.K.Sink.faults l.fn.sink ≤ g.K.Sink.faults l.sink;
}

abbrev pub decreases-parts : goal.decreases-parts
decreases-parts g l = length l.rest
