-- The texts compute.
use Rattle.std.proofs.Common.{◌≡◌, List, map, Ok, refl}
use Rattle.model_eval.specs.declared.custom_model.Area.{Area}
use Rattle.model_texts.specs.Tokens.{spelling, next, ahead, sees, after, expect, finish}
use Rattle.model_texts.specs.Conditions.{condition_of, test_at, alternative, conjunction, negation, atom, plain, bangs, parts}
use Rattle.model_texts.specs.Grouping.{groups}

pub all_group : (areas : List Area) → map (λ group. condition_of areas group.0) groups ≡ map (λ group. Ok group.1) groups
unfolding condition_of test_at alternative conjunction negation atom plain bangs parts spelling next ahead sees after expect finish
all_group areas = refl
