use Rattle.std.proofs.Common.{Some, arith, rules}
use Rattle.std.proofs.lemmas.Grind.{common_steps}
use Rattle.tag_rules.proofs.Uses.{used_where}
use Rattle.tag_rules.proofs.rules.values_of.Goals as goal

pub returns-then-is_open-2-clause-used : goal.returns-then-is_open-2-clause-used
returns-then-is_open-2-clause-used c =
    used_where c.args.tags.now (Some (record { forward = c.direction-forward.result; reverse = c.direction-reverse.result })) (first_of (search rules, grind (arith, common_steps)))
