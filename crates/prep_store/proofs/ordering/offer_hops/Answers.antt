use Rattle.std.proofs.Common.{◌<◌, List, Contains, sym, subst, ◌∙◌, refl, arith}
use Rattle.gh_base.specs.declared.edges.Hop.{Hop}
use Rattle.walk_rules.specs.Walks.{hops_from}
use Rattle.prep_store.specs.Ordering.{told_label, IsOpenBut}
use Rattle.prep_store.proofs.Lefts.{contains_first, contains_rest}
use Rattle.prep_store.proofs.Candidates.{offered, offered_long, all_offered}
use Rattle.prep_store.proofs.ordering.offer_hops.Goals as goal

pub hops-init : goal.hops-init
hops-init g c = record {
  same = c.start_at.ensures.network;
  starts = c.start_at.ensures.starts;
  keys = refl;
  rest = λ hop h. subst (λ (hops : List Hop). Contains hops hop) c.start_at.ensures.left h;
  keyed = subst (λ (hops : List Hop). IsOpenBut (g.V.RoadView.network c.args.view.now) c.args.grain (told_label c.args.told.now.prep.now c.args.told.now.landmark c.args.told.now.back) c.args.listing.now.items c.args.last.label hops c.args.queue.now)
      (sym c.start_at.ensures.left) c.requires.keyed;
}

pub hops-preserved : goal.hops-preserved
hops-preserved g c =
    let network = g.V.RoadView.network c.args.view.now in
    let labels = told_label c.args.told.now.prep.now c.args.told.now.landmark c.args.told.now.back in
    let items = c.args.listing.now.items in
    let i = c.hops.invariant in
    let e = c.in-Some.ensures in
    let leaves : Contains (hops_from network c.args.last.node.0) c.in-Some.hop = i.rest c.in-Some.hop (contains_first e.hop) in
    let leads : c.in-Some.hop.to.0 < network.nodes = g.met.V.RoadView.leads c.args.view.now c.args.last.node.0 c.in-Some.hop leaves in
    record {
      same = e.network ∙ i.same;
      starts = e.starts ∙ i.starts;
      keys = offered_long c.args.grain labels items c.args.last.label c.in-Some.hop c.hops.queue c.offer.new.queue c.offer.ensures ∙ i.keys;
      rest = λ hop h. i.rest hop (contains_rest e.hop hop h);
      keyed = offered network c.args.grain labels items c.args.last c.requires.fine c.requires.listed c.in-Some.hop (g.V.RoadView.left c.next_hop.new.self) c.hops.queue c.offer.new.queue leaves
          (omega (arith, leads, i.keys, c.requires.keys))
          (subst (λ (hops : List Hop). IsOpenBut network c.args.grain labels items c.args.last.label hops c.hops.queue) e.hop i.keyed) c.offer.ensures;
    }

pub offer-requires-clause-listing : goal.offer-requires-clause-listing
offer-requires-clause-listing g c =
    omega (arith, g.met.V.RoadView.leads c.args.view.now c.args.last.node.0 c.in-Some.hop (c.hops.invariant.rest c.in-Some.hop (contains_first c.in-Some.ensures.hop)), c.requires.nodes)

pub offer-requires-clause-queue : goal.offer-requires-clause-queue
offer-requires-clause-queue g c =
    omega (arith, g.met.V.RoadView.leads c.args.view.now c.args.last.node.0 c.in-Some.hop (c.hops.invariant.rest c.in-Some.hop (contains_first c.in-Some.ensures.hop)), c.requires.keys, c.hops.invariant.keys)

pub offer-requires-clause-labels : goal.offer-requires-clause-labels
offer-requires-clause-labels g c =
    omega (arith, g.met.V.RoadView.leads c.args.view.now c.args.last.node.0 c.in-Some.hop (c.hops.invariant.rest c.in-Some.hop (contains_first c.in-Some.ensures.hop)), c.requires.labels)

pub returns : goal.returns
returns g c =
    let network = g.V.RoadView.network c.args.view.now in
    let labels = told_label c.args.told.now.prep.now c.args.told.now.landmark c.args.told.now.back in
    let i = c.hops.invariant in
    let e = c.in_default.ensures in
    record {
      keyed = all_offered network c.args.grain labels c.args.listing.now.items c.args.last.label c.hops.queue
          (subst (λ (hops : List Hop). IsOpenBut network c.args.grain labels c.args.listing.now.items c.args.last.label hops c.hops.queue) e.end i.keyed);
      keys = i.keys;
      network = e.network ∙ i.same;
      starts = e.starts ∙ i.starts;
    }
