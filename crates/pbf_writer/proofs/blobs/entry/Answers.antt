use Rattle.std.proofs.Common.{◌≡◌, length, ap, arith}
use Rattle.pbf_wire.specs.Writing.{header_text}
use Rattle.pbf_writer.proofs.Counts.{header_most}
use Rattle.pbf_writer.proofs.blobs.entry.Goals as goal

pub overflow_cast-len : goal.overflow_cast-len
overflow_cast-len c =
    let same : length c.in_ok-header.header.items ≡ length (header_text c.args.name.now c.len.result) = ap length c.in_ok-header.ensures in
    let few = header_most c.args.name.now c.len.result in
    omega (arith, same, few)
