use Rattle.walk_rules.proofs.Single.{least_same, one_least_weight}
use Rattle.walk_rules.proofs.laws.least_weights_are_unique.Goals as goal

pub returns-clause-walks : goal.returns-clause-walks
returns-clause-walks c = least_same

pub returns-clause-weight : goal.returns-clause-weight
returns-clause-weight c = one_least_weight
