use Rattle.weighting.proofs.Plain.{has_none_is}
use Rattle.weighting.proofs.weighting.has_none.Goals as goal

pub returns : goal.returns
returns c = has_none_is _ _ c.is_empty.ensures
