use Rattle.std.specs.Prelude.{IsTrue}
use Rattle.std.proofs.Common.{false, sym, ◌∙◌, arith}
use Rattle.prep_store.proofs.Follows.{given_small, follows_not_past, follows_not_listed, follows_if, follows_then}
use Rattle.prep_store.proofs.lists.may_follow.Goals as goal

not_true : IsTrue false → ⊥
not_true t = absurd (cc)

pub returns-then-item-node_count-clause-follows : goal.returns-then-item-node_count-clause-follows
returns-then-item-node_count-clause-follows g c = λ network turned leads. (
  λ t. absurd (not_true t),
  λ f. absurd (follows_not_past network (g.W.RoadView.network c.args.back.now) turned leads c.args.grain c.args.landmark.0 c.args.listing.now.items c.args.item (λ e. not_true (c.if-is_empty.ensures.1 e))
      (omega (arith, turned.nodes, c.requires.nodes, c.node_count.ensures, c.if-item-node_count.true)) f),
)

pub returns-in-Some-clause-follows : goal.returns-in-Some-clause-follows
returns-in-Some-clause-follows g c = λ network turned leads. (
  λ t. absurd (not_true t),
  λ f. absurd (follows_not_listed network (g.W.RoadView.network c.args.back.now) turned leads c.args.grain c.args.landmark.0 c.args.listing.now.items c.args.item (λ e. not_true (c.if-is_empty.ensures.1 e))
      _ (sym c.label.ensures ∙ c.in-Some.is) f),
)

pub returns-in-None-clause-node : goal.returns-in-None-clause-node
returns-in-None-clause-node g c = λ t.
    let h = c.is_reached.ensures.some t in
    record { node = omega (arith, c.node_count.ensures, c.if-item-node_count.false); label = given_small c.args.grain c.args.listing.now.items c.args.item.label h.0 h.2 }

pub returns-in-None-clause-follows : goal.returns-in-None-clause-follows
returns-in-None-clause-follows g c = λ network turned leads. (
  λ t. follows_if network (g.W.RoadView.network c.args.back.now) turned leads c.args.grain c.args.landmark.0 c.args.listing.now.items c.args.item (λ e. not_true (c.if-is_empty.ensures.1 e))
      (sym c.label.ensures ∙ c.in-None.is) (c.is_reached.ensures.some t),
  λ f. let h = follows_then network (g.W.RoadView.network c.args.back.now) turned leads c.args.grain c.args.landmark.0 c.args.listing.now.items c.args.item (λ e. not_true (c.if-is_empty.ensures.1 e)) f in
      c.is_reached.ensures.none h.0 h.1 h.2,
)
