use Rattle.std.proofs.Common.{ℕ, List, [], Option, Contains, sym, subst, ap, ◌∙◌, arith}
use Rattle.gh_base.specs.declared.edges.Hop.{Hop}
use Rattle.walk_rules.specs.Walks.{hops_from}
use Rattle.prep_store.specs.Steps.{gives, IsStillSought}
use Rattle.prep_store.proofs.Lefts.{contains_first}
use Rattle.prep_store.proofs.Opens.{sought_none, sought_more}
use Rattle.prep_store.proofs.hops.is_reached.Goals as goal

pub hops-init : goal.hops-init
hops-init g c =
    let hops = hops_from (g.W.RoadView.network c.args.back.now) c.args.item.node.0 in
    record {
      same = c.start_at.ensures.network;
      starts = c.start_at.ensures.starts;
      sought = subst (λ (left : List Hop). IsStillSought c.args.grain c.args.listing.now.items c.args.item.label hops left) (sym c.start_at.ensures.left) (sought_none c.args.grain c.args.listing.now.items c.args.item.label hops);
    }

pub label-requires : goal.label-requires
label-requires g c =
    omega (arith, c.requires.nodes, g.met.W.RoadView.leads c.args.back.now c.args.item.node.0 c.in-Some.hop (c.hops.invariant.sought.rest c.in-Some.hop (contains_first c.in-Some.ensures.hop)))

pub returns-then-gives-clause-some : goal.returns-then-gives-clause-some
returns-then-gives-clause-some g c = λ _.
    (c.in-Some.hop, c.hops.invariant.sought.rest c.in-Some.hop (contains_first c.in-Some.ensures.hop), ap (λ (o : Option ℕ). gives c.args.grain o c.in-Some.hop.weight c.args.item.label) (sym c.label.ensures) ∙ (sym c.gives.ensures ∙ c.if-gives.true))

pub hops-preserved : goal.hops-preserved
hops-preserved g c =
    let e = c.in-Some.ensures in
    record {
      same = e.network ∙ c.hops.invariant.same;
      starts = omega (arith, e.starts, c.hops.invariant.starts);
      sought = sought_more (subst (λ (left : List Hop). IsStillSought c.args.grain c.args.listing.now.items c.args.item.label (hops_from (g.W.RoadView.network c.args.back.now) c.args.item.node.0) left) e.hop c.hops.invariant.sought)
          (ap (λ (o : Option ℕ). gives c.args.grain o c.in-Some.hop.weight c.args.item.label) (sym c.label.ensures) ∙ (sym c.gives.ensures ∙ c.if-gives.false));
    }

pub returns-clause-none : goal.returns-clause-none
returns-clause-none g c = λ hop leaves yes.
    let left : Contains [] hop = subst (λ (left : List Hop). Contains left hop) c.in_default.ensures.end (c.hops.invariant.sought.none hop leaves yes) in
    absurd (omega (arith, left.1))
