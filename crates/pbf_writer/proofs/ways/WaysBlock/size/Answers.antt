use Rattle.std.proofs.Common.{◌∙◌, ap, length}
use Rattle.pbf_wire.specs.Put.{bytes_field}
use Rattle.pbf_writer.proofs.Grown.{block_size}
use Rattle.pbf_writer.proofs.ways.WaysBlock.size.Goals as goal

pub returns : goal.returns
returns c = λ ways is. block_size ways c.args.self.now c.from.result c.from-2.result is
    (c.from.ensures ∙ c.field_size.ensures.size ∙ ap (λ l. length (bytes_field 1 l)) c.deref.ensures.value)
    (c.from-2.ensures ∙ c.field_size-2.ensures.size ∙ ap (λ l. length (bytes_field 2 l)) c.deref-2.ensures.value)
