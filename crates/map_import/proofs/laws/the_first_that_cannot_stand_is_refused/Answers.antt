use Rattle.map_import.proofs.FirstRefusal.{refusal_is_first, first_is_refusal}
use Rattle.map_import.proofs.laws.the_first_that_cannot_stand_is_refused.Goals as goal

pub returns : goal.returns
returns c = λ place pieces e. (refusal_is_first place pieces e, first_is_refusal place pieces e)
