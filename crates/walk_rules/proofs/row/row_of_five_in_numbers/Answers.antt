use Rattle.walk_rules.proofs.RowShown.{onward_walk, onward_least, starts_three, starts_four, starts_not_two, is_violated_there, is_kept_there}
use Rattle.walk_rules.proofs.row.row_of_five_in_numbers.Goals as goal

pub returns-clause-walk : goal.returns-clause-walk
returns-clause-walk c = onward_walk

pub returns-clause-least : goal.returns-clause-least
returns-clause-least c = onward_least

pub returns-clause-three : goal.returns-clause-three
returns-clause-three c = starts_three

pub returns-clause-four : goal.returns-clause-four
returns-clause-four c = starts_four

pub returns-clause-not_two : goal.returns-clause-not_two
returns-clause-not_two c = starts_not_two

pub returns-clause-violated : goal.returns-clause-violated
returns-clause-violated c = is_violated_there

pub returns-clause-kept : goal.returns-clause-kept
returns-clause-kept c = is_kept_there
