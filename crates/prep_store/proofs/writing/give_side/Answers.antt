use Rattle.std.proofs.Common.{List, ℕ, subst, sym, refl}
use Rattle.std.proofs.lemmas.Result.{on_ok_weaker, on_err_weaker}
use Rattle.gh_base.specs.Causes.{AppendsFront}
use Rattle.prep_store.specs.declared.item.Item.{Item}
use Rattle.prep_store.specs.Stores.{list_text}
use Rattle.prep_store.specs.Ordering.{told_label}
use Rattle.prep_store.specs.Writing.{IsListing}
use Rattle.prep_store.proofs.Listings.{list_one}
use Rattle.prep_store.proofs.writing.give_side.Goals as goal

pub returns-clause-ok : goal.returns-clause-ok
returns-clause-ok g c =
    let prep = c.args.told.now.prep.now in
    let own : IsListing (g.V.RoadView.network c.args.view.now) prep.grain c.args.landmark.0 (told_label prep c.args.told.now.landmark c.args.told.now.back) c.items.result.now =
    subst (λ (xs : List Item). IsListing (g.V.RoadView.network c.args.view.now) prep.grain c.args.landmark.0 (told_label prep c.args.told.now.landmark c.args.told.now.back) xs) (sym c.items.ensures.items)
    (subst (λ (n : ℕ). IsListing (g.V.RoadView.network c.args.view.now) n c.args.landmark.0 (told_label prep c.args.told.now.landmark c.args.told.now.back) c.in_ok-listing.listing.items) c.grain.ensures c.in_ok-listing.ensures.listing) in
    on_ok_weaker c.give_list.result (λ given. record { text = list_text c.items.result.now; so = (c.items.result.now, own, refl); given = given }) c.give_list.ensures.ok

pub returns-clause-err : goal.returns-clause-err
returns-clause-err g c =
    let prep = c.args.told.now.prep.now in
    let labels = told_label prep c.args.told.now.landmark c.args.told.now.back in
    let own : IsListing (g.V.RoadView.network c.args.view.now) prep.grain c.args.landmark.0 labels c.items.result.now =
    subst (λ (xs : List Item). IsListing (g.V.RoadView.network c.args.view.now) prep.grain c.args.landmark.0 labels xs) (sym c.items.ensures.items)
    (subst (λ (n : ℕ). IsListing (g.V.RoadView.network c.args.view.now) n c.args.landmark.0 labels c.in_ok-listing.listing.items) c.grain.ensures c.in_ok-listing.ensures.listing) in
    on_err_weaker c.give_list.result (λ front. record {
      front = λ text so. subst (AppendsFront (g.K.Sink.held c.args.sink.now) (g.K.Sink.held c.give_list.new.sink))
          (list_one (g.V.RoadView.network c.args.view.now) prep.grain c.args.landmark.0 labels (list_text c.items.result.now) text (c.items.result.now, own, refl) so) front;
    }) c.give_list.ensures.err
