use Rattle.word_laws.proofs.Lines.{line_again}
use Rattle.word_laws.proofs.laws.lines_are_read.Goals as goal

pub returns : goal.returns
returns c = λ request words askable line. line_again request words askable line
