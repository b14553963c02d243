use Rattle.std.proofs.Common.{length}
use Rattle.model_texts.proofs.conditions.plain.Goals as goal

pub returns-in-Some-enum_name-clause-named : goal.returns-in-Some-enum_name-clause-named
returns-in-Some-enum_name-clause-named c = c.is_word.ensures.named (length c.args.areas.now)

pub returns-in-Some-number_name-clause-named : goal.returns-in-Some-number_name-clause-named
returns-in-Some-number_name-clause-named c = c.comparison.ensures.named (length c.args.areas.now)
