use Rattle.landmark_choice.proofs.Fronts.{choices_fronts}
use Rattle.landmark_choice.proofs.farthest.choices_are_fronts.Goals as goal

pub returns : goal.returns
returns c = choices_fronts
