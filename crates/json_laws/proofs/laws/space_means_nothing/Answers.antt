use Rattle.json_laws.proofs.Spaces.{nothing_of_space}
use Rattle.json_laws.proofs.laws.space_means_nothing.Goals as goal

pub returns : goal.returns
returns c = nothing_of_space
