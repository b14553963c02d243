use Rattle.walk_rules.proofs.Turning.{walk_back, turned_both, turned_label}
use Rattle.walk_rules.proofs.laws.walks_turn_round.Goals as goal

pub returns-clause-both : goal.returns-clause-both
returns-clause-both c = turned_both

pub returns-clause-walks : goal.returns-clause-walks
returns-clause-walks c = λ out back t from to hops w. walk_back out back t.there hops from to w

pub returns-clause-labels : goal.returns-clause-labels
returns-clause-labels c = turned_label
