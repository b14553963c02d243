use Rattle.walk_rules.proofs.Starting.{starts_between, starts_all}
use Rattle.walk_rules.proofs.laws.starts_are_counted.Goals as goal

pub returns-clause-between : goal.returns-clause-between
returns-clause-between c = starts_between

pub returns-clause-all : goal.returns-clause-all
returns-clause-all c = starts_all
