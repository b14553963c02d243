use Rattle.std.proofs.Common.{◌≡◌, ◌<◌, ◌∙◌, None, List, sym, subst, ap, length, slice_set, arith}
use Rattle.prep_store.specs.declared.item.Item.{Item}
use Rattle.prep_store.specs.Steps.{Listed, IsRow}
use Rattle.prep_store.specs.Evidence.{label_in}
use Rattle.prep_store.proofs.Rows.{row_pushed}
use Rattle.prep_store.proofs.listing.Listing.push.Goals as goal

pub invariant_of-self-2 : goal.invariant_of-self-2
invariant_of-self-2 c =
    let row = c.self.inside.row.items in
    let items = c.self.inside.items.items in
    let item = c.args.item in
    let within : item.node.0 < length row = omega (arith, c.requires.node, ap (λ (v : Listed). v.nodes) c.self.view_is) in
    let new : label_in items item.node.0 ≡ None = ap (λ (v : Listed). label_in v.items item.node.0) c.self.view_is ∙ c.requires.new in
    subst (λ (is : List Item). IsRow (slice_set row item.node.0 item.label) is) (sym c.in_ok-push.ensures.items)
    (row_pushed row items item c.self.invariant within c.requires.label new)
