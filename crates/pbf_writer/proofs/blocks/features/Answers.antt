use Rattle.pbf_writer.proofs.Joined.{two_puts}
use Rattle.pbf_writer.proofs.blocks.features.Goals as goal

pub returns : goal.returns
returns c = two_puts _ _ _ _ _ c.new-bytes.ensures.items c.in_ok-put_bytes.ensures.put c.in_ok-put_bytes-2.ensures.put
