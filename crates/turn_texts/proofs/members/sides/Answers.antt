use Rattle.std.proofs.Common.{◌≡◌, ◌∷◌, sym, ap, ◌∙◌}
use Rattle.gh_base.specs.Parts.{parts_of}
use Rattle.turn_texts.specs.PlainRelations.{sides_of}
use Rattle.turn_texts.proofs.Sides.{sides_more}
use Rattle.turn_texts.proofs.members.sides.Goals as goal

pub returns-in-Some : goal.returns-in-Some
returns-in-Some c =
    let first = c.first_part.result.0.now in
    let after = c.in-Some.after.now in
    let parts : parts_of 64 c.args.text.now ≡ first ∷ parts_of 64 after = rw c.in-Some.is at c.first_part.ensures.parts in
    sym (ap sides_of parts ∙ sides_more first after)
