-- The texts compute.
use Rattle.std.proofs.Common.{refl}
use Rattle.gh_base.specs.Decimals.{natural_of, split_at_dot, decimal_of}
use Rattle.model_texts.specs.Tokens.{spelling, next, ahead, sees, after, expect, finish}
use Rattle.model_texts.specs.Amounts.{constant_of, factor_of, front_of}
use Rattle.model_texts.specs.Conditions.{condition_of, test_at, alternative, conjunction, negation, atom, plain, bangs, parts, comparison, is_word}
use Rattle.model_texts.specs.Actions.{action_of, behind_name, expression, factor, name, scaled, star}
use Rattle.model_laws.specs.Conditions.{NamesAreSo, WordsAreSo, ConditionsAreSo, ConditionFaultsStandSo}
use Rattle.model_laws.specs.Actions.{ActionsAreSo}

pub names_so : NamesAreSo
unfolding condition_of test_at alternative conjunction negation atom plain bangs parts comparison is_word spelling next ahead sees after expect finish constant_of natural_of split_at_dot decimal_of
names_so = (refl, (refl, (refl, (refl, (refl, refl)))))

pub words_so : WordsAreSo
unfolding condition_of test_at alternative conjunction negation atom plain bangs parts comparison is_word spelling next ahead sees after expect finish constant_of natural_of split_at_dot decimal_of
words_so = (refl, (refl, (refl, (refl, (refl, refl)))))

pub conditions_so : ConditionsAreSo
unfolding condition_of test_at alternative conjunction negation atom plain bangs parts comparison is_word spelling next ahead sees after expect finish constant_of natural_of split_at_dot decimal_of
conditions_so = refl

pub condition_faults_so : ConditionFaultsStandSo
unfolding condition_of test_at alternative conjunction negation atom plain bangs parts comparison is_word spelling next ahead sees after expect finish constant_of natural_of split_at_dot decimal_of
condition_faults_so = refl

pub actions_so : ActionsAreSo
unfolding action_of behind_name expression factor name scaled star factor_of front_of spelling next ahead sees after expect finish natural_of split_at_dot decimal_of
actions_so = refl
