use Rattle.pbf_writer.proofs.Joined.{two_fields}
use Rattle.pbf_writer.proofs.Grown.{block_bytes}
use Rattle.pbf_writer.proofs.ways.WaysBlock.bytes.Goals as goal

pub returns : goal.returns
returns c = λ ways is. block_bytes ways c.args.self.now _ is (two_fields _ _ _ _ _ _ _ c.new-bytes.ensures.items c.deref.ensures.value c.deref-2.ensures.value c.in_ok-put_bytes.ensures.put c.in_ok-put_bytes-2.ensures.put)
