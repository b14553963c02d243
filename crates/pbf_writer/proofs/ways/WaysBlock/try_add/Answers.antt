use Rattle.std.proofs.Common.{◌∙◌, ◌++◌, ◌∷◌, [], take, ap, arith}
use Rattle.pbf_writer.proofs.Grown.{cut_back}
use Rattle.pbf_writer.proofs.ways.WaysBlock.try_add.Goals as goal

pub returns : goal.returns
returns c = λ ways was.
    let is = c.in_ok-add.ensures ways was in
    let size = c.size.ensures (ways ++ c.args.way.now ∷ []) is.written in (
      cut_back ways c.args.way.now c.args.self.now c.add.new.self (record { strings = record { words = c.add.new.self.strings.words; text = c.truncate.new.self }; group = c.truncate-2.new.self }) was is (c.truncate.ensures.items ∙ ap (λ n. take n c.add.new.self.strings.text.items) (c.len-text.ensures ∙ c.args.self.now.strings.text.ok.0)) (c.truncate-2.ensures.items ∙ ap (λ n. take n c.add.new.self.group.items) (c.len-group.ensures ∙ c.args.self.now.group.ok.0)),
      omega (arith, size),
    )
