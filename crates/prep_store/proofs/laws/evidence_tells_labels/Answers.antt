use Rattle.prep_store.proofs.Attained.{evidence_tells}
use Rattle.prep_store.proofs.laws.evidence_tells_labels.Goals as goal

pub returns : goal.returns
returns c = λ network grain landmark items labels evidence told. evidence_tells network grain landmark items labels evidence told
