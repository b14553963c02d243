use Rattle.std.proofs.Common.{List, None, sym, subst, ◌∙◌, arith}
use Rattle.gh_base.specs.declared.edges.Hop.{Hop}
use Rattle.walk_rules.specs.Walks.{hops_from}
use Rattle.prep_store.specs.Steps.{IsLeastSoFar}
use Rattle.prep_store.proofs.Lefts.{contains_first}
use Rattle.prep_store.proofs.Opens.{least_none, least_kept, least_now, least_closed, least_found, none_then, some_then}
use Rattle.prep_store.proofs.hops.open_at.Goals as goal

pub hops-init : goal.hops-init
hops-init g c =
    let hops = hops_from (g.V.RoadView.network c.args.view.now) c.args.node.0 in
    record {
      same = c.start_at.ensures.network;
      starts = c.start_at.ensures.starts;
      least = subst (λ (left : List Hop). IsLeastSoFar c.args.grain c.args.listing.now.items c.args.node.0 hops left None) (sym c.start_at.ensures.left) (least_none c.args.grain c.args.listing.now.items c.args.node.0 hops);
      tail = sym c.label-tail.ensures;
    }

pub is_open-requires-clause-head : goal.is_open-requires-clause-head
is_open-requires-clause-head g c =
    omega (arith, c.requires.nodes, g.met.V.RoadView.leads c.args.view.now c.args.node.0 c.in-Some.hop (c.hops.invariant.least.rest c.in-Some.hop (contains_first c.in-Some.ensures.hop)))

pub hops-preserved-then-is_open : goal.hops-preserved-then-is_open
hops-preserved-then-is_open g c =
    let i = c.hops.invariant in
    let e = c.in-Some.ensures in
    let l = c.lesser_edge.ensures in
    record {
      same = e.network ∙ i.same;
      starts = omega (arith, e.starts, i.starts);
      least = least_now (subst (λ (left : List Hop). IsLeastSoFar c.args.grain c.args.listing.now.items c.args.node.0 (hops_from (g.V.RoadView.network c.args.view.now) c.args.node.0) left c.hops.first) e.hop i.least)
          c.lesser_edge.result (sym (c.is_open.ensures c.args.node.0 i.tail) ∙ c.if-is_open.true) l.one l.least l.first;
      tail = i.tail;
    }

pub hops-preserved : goal.hops-preserved
hops-preserved g c =
    let i = c.hops.invariant in
    let e = c.in-Some.ensures in
    record {
      same = e.network ∙ i.same;
      starts = omega (arith, e.starts, i.starts);
      least = least_kept (subst (λ (left : List Hop). IsLeastSoFar c.args.grain c.args.listing.now.items c.args.node.0 (hops_from (g.V.RoadView.network c.args.view.now) c.args.node.0) left c.hops.first) e.hop i.least)
          (sym (c.is_open.ensures c.args.node.0 i.tail) ∙ c.if-is_open.false);
      tail = i.tail;
    }

pub returns-clause-none : goal.returns-clause-none
returns-clause-none g c = none_then c.hops.first (least_closed (g.V.RoadView.network c.args.view.now) c.hops.invariant.least c.in_default.ensures.end)

pub returns-clause-some : goal.returns-clause-some
returns-clause-some g c = some_then c.hops.first (least_found (g.V.RoadView.network c.args.view.now) c.hops.invariant.least c.in_default.ensures.end)
