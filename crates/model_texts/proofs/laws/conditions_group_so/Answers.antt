use Rattle.model_texts.proofs.Grouping.{all_group}
use Rattle.model_texts.proofs.laws.conditions_group_so.Goals as goal

pub returns : goal.returns
returns c = all_group
