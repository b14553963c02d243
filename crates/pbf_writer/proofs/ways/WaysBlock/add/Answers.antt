use Rattle.std.proofs.Common.{◌∙◌}
use Rattle.pbf_writer.proofs.Grown.{block_more}
use Rattle.pbf_writer.proofs.ways.WaysBlock.add.Goals as goal

pub returns : goal.returns
returns c = λ ways is. block_more ways c.args.way.now c.args.self.now _ _ is c.in_ok-bytes.ensures.words c.in_ok-bytes.ensures.text (c.deref.ensures.value ∙ c.in_ok-bytes.ensures.bytes) c.in_ok-put_bytes.ensures.put
