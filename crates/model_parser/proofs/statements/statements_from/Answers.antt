use Rattle.std.proofs.Common.{◌≡◌, ◌+◌, ◌∷◌, [], false, drop, length, arith}
use Rattle.std.proofs.lemmas.Grind.{common_steps}
use Rattle.model_parser.specs.Statements as spec
use Rattle.model_parser.proofs.Blocks.{one_read, one_sound}
use Rattle.model_parser.proofs.statements.statements_from.Goals as goal

pub loop-value-preserved : goal.loop-value-preserved
loop-value-preserved c =
    let v = c.value-item.result in
    let s = c.in_ok-statement.statement in
    let longer = c.in_ok-push.ensures.ok in
    let cut : drop c.loop-value.value-index c.args.values.now ≡ v ∷ drop (c.loop-value.value-index + 1) c.args.values.now = grind (arith, common_steps, c.value-item.is, c.loop-value-test.true) in
    record {
      read = one_read c.args.running c.args.areas.now c.loop-value.item c.loop-value.value-index c.loop-value.may_go_on c.goes_on-may_go_on.result c.loop-value.found c.push.new.self s v c.args.values.now
          (spec.statements_from c.args.running c.args.areas.now 1 false [] c.args.values.now)
          c.loop-value.invariant.read cut c.in_ok-statement.ensures.statement c.goes_on-may_go_on.ensures longer;
      count = omega (arith, c.loop-value.invariant.count);
      size = grind (arith, common_steps, longer, c.loop-value.invariant.size);
      sound = one_sound (length c.args.areas.now) c.loop-value.may_go_on c.goes_on-may_go_on.result c.loop-value.found c.push.new.self s c.loop-value.invariant.sound c.in_ok-statement.ensures.sound c.in_ok-statement.ensures.in_block c.goes_on-may_go_on.ensures longer;
    }
