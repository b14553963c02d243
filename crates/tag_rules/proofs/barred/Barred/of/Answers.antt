use Rattle.std.proofs.Common.{◌∙◌, false}
use Rattle.tag_rules.specs.Access.{set_of}
use Rattle.tag_rules.proofs.barred.Barred.of.Goals as goal

pub returns : goal.returns
returns c =
    let car = c.with.ensures false false false (c.empty.ensures tt) in
    let bike = c.with-2.ensures _ false false car in
    let foot = c.with-3.ensures _ _ false bike in
    foot ∙ (λ i. set_of (c.is_barred.ensures i) (c.is_barred-2.ensures i) (c.is_barred-3.ensures i))
