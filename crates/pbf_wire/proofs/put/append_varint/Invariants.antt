use Rattle.std.proofs.Common.{◌++◌}
use Rattle.pbf_wire.specs.Put.{varint_bytes, Extends}
use Rattle.pbf_wire.proofs.Puts.{IsPut}
use Rattle.pbf_wire.proofs.put.append_varint.Given as goal

abbrev pub invariant-bytes : goal.invariant-bytes
invariant-bytes l = record {
  put : IsPut l.out.items l.left (l.fn.out.items ++ varint_bytes l.value);
  kept : Extends l.fn.out.items l.out.items;
}

abbrev pub decreases-bytes : goal.decreases-bytes
decreases-bytes l = l.left
