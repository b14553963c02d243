use Rattle.walk_rules.proofs.Single.{one_reach, one_distance, one_label}
use Rattle.walk_rules.proofs.laws.distances_are_unique.Goals as goal

pub returns-clause-reach : goal.returns-clause-reach
returns-clause-reach c = one_reach

pub returns-clause-distance : goal.returns-clause-distance
returns-clause-distance c = one_distance

pub returns-clause-label : goal.returns-clause-label
returns-clause-label c = one_label
