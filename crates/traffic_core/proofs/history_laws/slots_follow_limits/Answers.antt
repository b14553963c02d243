use Rattle.traffic_core.proofs.SlotsAfter.{newest_is_in_slot, none_comes_back, stays_in_slot, leaves_when_above}
use Rattle.traffic_core.proofs.history_laws.slots_follow_limits.Goals as goal

pub returns-clause-newest : goal.returns-clause-newest
returns-clause-newest c = newest_is_in_slot

pub returns-clause-none : goal.returns-clause-none
returns-clause-none c = none_comes_back

pub returns-clause-stays : goal.returns-clause-stays
returns-clause-stays c = stays_in_slot

pub returns-clause-leaves : goal.returns-clause-leaves
returns-clause-leaves c = leaves_when_above
