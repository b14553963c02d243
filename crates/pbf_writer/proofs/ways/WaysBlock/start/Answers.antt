use Rattle.std.proofs.Common.{◌∙◌, ap, sym}
use Rattle.pbf_wire.specs.Writing.{strings_text}
use Rattle.pbf_writer.specs.Strings.{spelled}
use Rattle.pbf_writer.proofs.Grown.{block_start}
use Rattle.pbf_writer.proofs.ways.WaysBlock.start.Goals as goal

pub returns : goal.returns
returns c = block_start _ (spelled c.args.self.now.strings.words) c.requires.words c.in_ok-place.ensures.words (c.in_ok-place.ensures.text (c.requires.text ∙ ap strings_text (sym c.requires.words))) c.requires.group
