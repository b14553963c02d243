use Rattle.generated_run.proofs.Runs.{edges_of_size, one_ground}
use Rattle.generated_run.proofs.laws.sizes_have_one_ground.Goals as goal

pub returns-clause-ground : goal.returns-clause-ground
returns-clause-ground c = one_ground

pub returns-clause-edges : goal.returns-clause-edges
returns-clause-edges c = edges_of_size
