use Rattle.std.proofs.Common.{ap, ◌∙◌}
use Rattle.prep_store.specs.Steps.{Listed}
use Rattle.prep_store.specs.Evidence.{label_in}
use Rattle.prep_store.proofs.Lookups.{label_push_new}
use Rattle.prep_store.proofs.ordering.list_next.Goals as goal

pub offer_hops-requires-clause-listed : goal.offer_hops-requires-clause-listed
offer_hops-requires-clause-listed g c =
    ap (λ (v : Listed). label_in v.items c.args.item.node.0) c.in_ok-push.ensures ∙ label_push_new c.args.listing.now.items c.args.item c.requires.new
