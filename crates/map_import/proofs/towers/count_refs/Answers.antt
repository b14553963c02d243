use Rattle.std.specs.Ordering.{int_eq}
use Rattle.std.specs.HashMap.{get}
use Rattle.std.specs.Int.{w64, cast_signed, cast_unsigned}
use Rattle.std.proofs.Common.{◌≡◌, ℤ, Some, cond, get_or, pos, ap, ◌∙◌, rules, SFits}
use Rattle.std.proofs.lemmas.Int.{to_z-of_z}
use Rattle.std.proofs.lemmas.List.{get_or_default}
use Rattle.map_import.proofs.Marks.{count_more}
use Rattle.map_import.proofs.towers.count_refs.Goals as goal

pub loop-id-preserved : goal.loop-id-preserved
loop-id-preserved c n before =
    let refs = c.args.refs.now in
    let i = c.loop-id.id-index in
    let k = get_or refs i (pos 0) in
    let fits : SFits w64 k = search rules in
    let key : cast_signed w64 (cast_unsigned w64 k) ≡ k = to_z-of_z w64 k fits in
    count_more refs i k c.contains_key-stood.result n (get int_eq c.loop-id.marks) (get int_eq c.insert.new.self)
    c.loop-id-test.true (get_or_default refs i (pos 0) k c.loop-id-test.true) c.contains_key-stood.ensures
    (c.loop-id.invariant n before)
    (λ q. c.in_ok-insert.ensures.updates.0 q ∙ ap (λ (j : ℤ). cond (int_eq j q) (Some c.contains_key-stood.result) (get int_eq c.loop-id.marks q)) key)
