use Rattle.std.proofs.Common.{◌≡◌, ◌<◌, ◌∙◌, sym, ap, length, arith}
use Rattle.std.proofs.lemmas.Grind.{get_or_default_zero}
use Rattle.prep_store.specs.Steps.{Listed, number_in}
use Rattle.prep_store.specs.Evidence.{label_in}
use Rattle.prep_store.proofs.Rows.{none_by_number}
use Rattle.prep_store.proofs.listing.Listing.label.Goals as goal

pub returns-then-number : goal.returns-then-number
returns-then-number c =
    let row = c.self.inside.row.items in
    let items = c.self.inside.items.items in
    let node = c.args.node.0 in
    let long : length row ≡ c.args.self.now.nodes = ap (λ (v : Listed). v.nodes) c.self.view_is in
    let within : node < length row = omega (arith, c.requires, long) in
    let number : number_in items node ≡ 65535 =
    sym (c.self.invariant.each node within) ∙ (sym (get_or_default_zero row node c.index-number.result.now within) ∙ (sym c.index-number.ensures ∙ c.if-number.true)) in
    sym (ap (λ (v : Listed). label_in v.items node) (sym c.self.view_is) ∙ none_by_number (length row) items node c.self.invariant.are_items number)
