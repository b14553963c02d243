use Rattle.traffic_core.proofs.LimitsAfter.{limit_after-push, one_limit_list}
use Rattle.traffic_core.proofs.history_laws.limits_follow_entries.Goals as goal

pub returns-clause-change : goal.returns-clause-change
returns-clause-change c = limit_after-push

pub returns-clause-one : goal.returns-clause-one
returns-clause-one c = one_limit_list
