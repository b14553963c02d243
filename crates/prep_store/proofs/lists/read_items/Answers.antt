use Rattle.std.proofs.Common.{◌≡◌, ◌++◌, ◌∷◌, [], List, length, refl, sym, subst, ap, ◌∙◌, arith}
use Rattle.std.proofs.lemmas.List.{length_push}
use Rattle.gh_base.specs.Networks.{Network}
use Rattle.walk_rules.specs.Walks.{AreTurned}
use Rattle.prep_store.specs.declared.item.Item.{Item}
use Rattle.prep_store.specs.Evidence.{MayFollow, MayAllFollow}
use Rattle.prep_store.specs.Stores.{items_text}
use Rattle.prep_store.specs.FirstFaults.{FailsInItems}
use Rattle.prep_store.specs.Steps.{Listed}
use Rattle.prep_store.proofs.Telling.{taken_then, taken_as, out_of_memory, handed_on}
use Rattle.prep_store.proofs.Follows.{follow_push}
use Rattle.prep_store.proofs.ListFaults.{item_cut, item_other, items_push, length-items}
use Rattle.prep_store.proofs.lists.read_items.Goals as goal

pub read_item-requires : goal.read_item-requires
read_item-requires g c = let i = c.items.invariant in omega (arith, i.taken.counted, length-items c.items.listing.items, i.so_far, c.items-test.true)

pub returns-in_err-item-clause-fails : goal.returns-in_err-item-clause-fails
returns-in_err-item-clause-fails g c = λ network turned leads.
    let i = c.items.invariant in
    handed_on (FailsInItems network c.args.grain c.args.landmark.0 c.args.which c.args.count) c.from_residual.result c.from_residual.ensures.1
    (item_cut network c.args.grain c.args.landmark.0 c.args.which c.args.count c.items.listing.items (omega (arith, i.so_far, c.items-test.true)) (i.order network turned leads) i.taken c.in_err-item.ensures.fails)

pub returns-then-not-may_follow-clause-fails : goal.returns-then-not-may_follow-clause-fails
returns-then-not-may_follow-clause-fails g c = λ network turned leads.
    let i = c.items.invariant in
    let item = c.in_ok-item.item in
    let read = c.in_ok-item.ensures in
    let turned_here : AreTurned network (g.W.RoadView.network c.items.behind) = subst (λ (n : Network). AreTurned network n) (sym i.same) turned in
    let other : MayFollow network c.args.grain c.args.landmark.0 c.items.listing.items item → ⊥ = λ f. let t = (c.if-not-may_follow.ensures.follows network turned_here leads).1 f in absurd (cc) in
    item_other network c.args.grain c.args.landmark.0 c.args.which c.args.count c.items.listing.items (omega (arith, i.so_far, c.items-test.true)) (i.order network turned leads)
    c.items.place item i.so_far i.taken read.item read.node read.label other

pub returns-in_err-push-clause-fails : goal.returns-in_err-push-clause-fails
returns-in_err-push-clause-fails g c = λ network turned leads.
    handed_on (FailsInItems network c.args.grain c.args.landmark.0 c.args.which c.args.count) c.from_residual-in_err-push.result c.from_residual-in_err-push.ensures.1 (out_of_memory (taken_then c.items.invariant.taken c.in_ok-item.ensures.item))

pub items-preserved : goal.items-preserved
items-preserved g c =
    let i = c.items.invariant in
    let item = c.in_ok-item.item in
    let items = c.items.listing.items in
    let pushed : c.push.new.self.items ≡ items ++ item ∷ [] = ap (λ (l : Listed). l.items) c.in_ok-push.ensures in
    record {
      taken = taken_as (sym (ap items_text pushed ∙ items_push items item)) (taken_then i.taken c.in_ok-item.ensures.item);
      so_far = omega (arith, ap (λ (xs : List Item). length xs) pushed, length_push items item, i.so_far);
      nodes = ap (λ (l : Listed). l.nodes) c.in_ok-push.ensures ∙ i.nodes;
      order = λ network turned leads.
          let turned_here : AreTurned network (g.W.RoadView.network c.items.behind) = subst (λ (n : Network). AreTurned network n) (sym i.same) turned in
          subst (λ (xs : List Item). MayAllFollow network c.args.grain c.args.landmark.0 [] xs) (sym pushed)
          (follow_push network c.args.grain c.args.landmark.0 [] items item (i.order network turned leads) ((c.if-not-may_follow.ensures.follows network turned_here leads).0 refl));
      same = c.may_follow.ensures.network ∙ i.same;
      starts = omega (arith, i.starts, c.may_follow.ensures.starts);
    }
