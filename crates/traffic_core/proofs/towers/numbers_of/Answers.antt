use Rattle.std.specs.Ordering.{int_eq}
use Rattle.std.specs.HashMap.{get}
use Rattle.std.specs.Int.{w64, cast_signed, cast_unsigned}
use Rattle.std.proofs.Common.{◌≡◌, ℕ, ℤ, Some, cond, get_or, pos, ap, ◌∙◌, rules, SFits, arith}
use Rattle.std.proofs.lemmas.Int.{to_z-of_z}
use Rattle.std.proofs.lemmas.List.{get_or_default}
use Rattle.traffic_core.proofs.Index.{index_more}
use Rattle.traffic_core.proofs.towers.numbers_of.Goals as goal

pub loop-id-preserved : goal.loop-id-preserved
loop-id-preserved c =
    let ids = c.args.ids.now in
    let i = c.loop-id.id-index in
    let id = get_or ids i (pos 0) in
    let fits : SFits w64 id = search rules in
    let key : cast_signed w64 (cast_unsigned w64 id) ≡ id = to_z-of_z w64 id fits in (
      omega arith,
      index_more ids i id (get int_eq c.loop-id.numbers) (get int_eq c.insert.new.self)
          c.loop-id-test.true (get_or_default ids i (pos 0) id c.loop-id-test.true) c.loop-id.invariant.1
          (λ q. c.in_ok-insert.ensures.updates.0 q ∙ ap (λ (j : ℤ). cond (int_eq j q) (Some c.loop-id.number) (get int_eq c.loop-id.numbers q)) key ∙ ap (λ (n : ℕ). cond (int_eq id q) (Some n) (get int_eq c.loop-id.numbers q)) c.loop-id.invariant.0),
    )
