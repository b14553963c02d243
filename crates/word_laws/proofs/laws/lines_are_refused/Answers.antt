use Rattle.word_laws.proofs.SamplesRefused.{refused_so}
use Rattle.word_laws.proofs.laws.lines_are_refused.Goals as goal

pub returns : goal.returns
returns c = refused_so
