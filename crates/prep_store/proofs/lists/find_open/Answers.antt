use Rattle.std.proofs.Common.{◌≤◌, List, length, sym, subst, ap, ◌∙◌, arith}
use Rattle.std.proofs.lemmas.List.{take_all}
use Rattle.std.specs.List.{Contains}
use Rattle.prep_store.specs.declared.item.Item.{Item}
use Rattle.prep_store.proofs.Opens.{first_of, closed_next}
use Rattle.prep_store.proofs.lists.find_open.Goals as goal

pub returns-in-Some-clause-some : goal.returns-in-Some-clause-some
returns-in-Some-clause-some g c =
    let i = c.items.invariant in
    first_of (g.V.RoadView.network c.args.view.now) (g.V.RoadView.network c.items.ahead) i.same c.args.grain c.items-items.result.now c.args.listing.now.items c.items-items.ensures.items c.items.place c.items-test.true _ i.closed c.in-Some.edge c.in-Some.ensures.some

pub items-preserved : goal.items-preserved
items-preserved g c =
    let i = c.items.invariant in
    record {
      same = c.open_at.ensures.network ∙ i.same;
      starts = omega (arith, c.open_at.ensures.starts, i.starts);
      items = c.items-items.ensures.items;
      end = i.end;
      closed = closed_next (g.V.RoadView.network c.args.view.now) (g.V.RoadView.network c.items.ahead) i.same c.args.grain c.items-items.result.now c.args.listing.now.items c.items-items.ensures.items c.items.place c.items-test.true _ i.closed c.in-None.ensures.none;
    }

pub returns-clause-none : goal.returns-clause-none
returns-clause-none g c = λ item h.
    let i = c.items.invariant in
    let end : length c.args.listing.now.items ≤ c.items.place = omega (arith, c.items-test.false, ap (λ (xs : List Item). length xs) c.items-items.ensures.items) in
    i.closed item (subst (λ (xs : List Item). Contains xs item) (sym (take_all c.items.place c.args.listing.now.items end)) h)
