use Rattle.std.proofs.Common.{◌≡◌, ℕ, sym, ap, ◌∙◌, arith}
use Rattle.gh_base.specs.declared.edges.NodeId.{NodeId}
use Rattle.alt_search.specs.Progress.{is_known_within}
use Rattle.alt_search.proofs.Useful.{fewer_left}
use Rattle.two_way_search.proofs.Going.{few_settled, begin_going, next_inside, step_going, step_met, end_going, light_in, popped}
use Rattle.two_way_search.proofs.side.Side.settle_next.Goals as goal

pub overflow_add-self : goal.overflow_add-self
overflow_add-self g c =
    let side = c.requires.side in
    let i = begin_going side.2 c.in-Some.node c.in-Some._key c.in-Some-reach.from c.in-Some.is (sym c.reach.ensures ∙ c.in-Some-reach.is) in
    omega (arith, few_settled i.underway, c.requires.few)

pub hops-init : goal.hops-init
hops-init g c =
    record {
      same = c.start_at.ensures.network;
      starts = c.start_at.ensures.starts;
      settled = omega arith;
      going = λ end least side. rw c.start_at.ensures.left (begin_going side c.in-Some.node c.in-Some._key c.in-Some-reach.from c.in-Some.is (sym c.reach.ensures ∙ c.in-Some-reach.is));
      meets = c.requires.met;
    }

pub next_useful-requires : goal.next_useful-requires
next_useful-requires g c =
    let side = c.requires.side in
    omega (arith, c.node_count-nodes.ensures, (c.hops.invariant.going side.0 side.1 side.2).underway.long_reached)

pub relax-requires-clause-reached : goal.relax-requires-clause-reached
relax-requires-clause-reached g c =
    let side = c.requires.side in
    let i = c.hops.invariant.going side.0 side.1 side.2 in
    (next_inside (g.met.V.RoadView.leads c.args.view.now) i c.in-Some-next_useful.hop _ c.in-Some-next_useful.ensures.hop).1

pub relax-requires-clause-keys : goal.relax-requires-clause-keys
relax-requires-clause-keys g c =
    let side = c.requires.side in
    let i = c.hops.invariant.going side.0 side.1 side.2 in
    (next_inside (g.met.V.RoadView.leads c.args.view.now) i c.in-Some-next_useful.hop _ c.in-Some-next_useful.ensures.hop).2

pub relax-requires-clause-queued : goal.relax-requires-clause-queued
relax-requires-clause-queued g c =
    let side = c.requires.side in
    (c.hops.invariant.going side.0 side.1 side.2).underway.tree.queued

pub relax-requires-clause-asked : goal.relax-requires-clause-asked
relax-requires-clause-asked g c =
    let side = c.requires.side in
    (c.hops.invariant.going side.0 side.1 side.2).asked

pub relax-requires-clause-depth : goal.relax-requires-clause-depth
relax-requires-clause-depth g c =
    let side = c.requires.side in
    let i = c.hops.invariant.going side.0 side.1 side.2 in
    omega (arith, i.deep, few_settled i.underway, c.requires.few)

pub relax-requires-clause-weight : goal.relax-requires-clause-weight
relax-requires-clause-weight g c =
    let side = c.requires.side in
    let i = c.hops.invariant.going side.0 side.1 side.2 in
    (i.underway.tree.small c.in-Some.node.0 c.in-Some-reach.from i.from_settled.reach_is).1

pub best_over-met-requires-clause-reached : goal.best_over-met-requires-clause-reached
best_over-met-requires-clause-reached g c =
    let side = c.requires.side in
    let leads = g.met.V.RoadView.leads c.args.view.now in
    let i = c.hops.invariant.going side.0 side.1 side.2 in
    let hop = c.in-Some-next_useful.hop in
    let inside = next_inside leads i hop _ c.in-Some-next_useful.ensures.hop in
    let after = step_going leads i hop _ c.in-Some-next_useful.ensures.hop c.requires.falls c.relax.ensures.relaxes c.relax.ensures.asked in
    omega (arith, inside.0, after.underway.long_reached)

pub best_over-met-requires-clause-other : goal.best_over-met-requires-clause-other
best_over-met-requires-clause-other g c =
    let side = c.requires.side in
    let leads = g.met.V.RoadView.leads c.args.view.now in
    let i = c.hops.invariant.going side.0 side.1 side.2 in
    omega (arith, (next_inside leads i c.in-Some-next_useful.hop _ c.in-Some-next_useful.ensures.hop).0, c.requires.other)

pub best_over-met-requires-clause-here : goal.best_over-met-requires-clause-here
best_over-met-requires-clause-here g c =
    let side = c.requires.side in
    let leads = g.met.V.RoadView.leads c.args.view.now in
    let i = c.hops.invariant.going side.0 side.1 side.2 in
    let hop = c.in-Some-next_useful.hop in
    let after = step_going leads i hop _ c.in-Some-next_useful.ensures.hop c.requires.falls c.relax.ensures.relaxes c.relax.ensures.asked in
    λ reach r. light_in after.underway c.requires.few hop.to.0 reach r

pub hops-smaller : goal.hops-smaller
hops-smaller g c = omega (arith, fewer_left (is_known_within c.hops.self.reached c.in-Some-reach.from.weight) (g.V.RoadView.left c.hops.view) c.in-Some-next_useful.hop (g.V.RoadView.left c.next_useful.new.view) c.in-Some-next_useful.ensures.hop)

pub hops-preserved : goal.hops-preserved
hops-preserved g c =
    let leads = g.met.V.RoadView.leads c.args.view.now in
    let i = c.hops.invariant in
    let side = c.requires.side in
    let hop = c.in-Some-next_useful.hop in
    record {
      same = c.in-Some-next_useful.ensures.network ∙ i.same;
      starts = omega (arith, c.in-Some-next_useful.ensures.starts, i.starts);
      settled = i.settled;
      going = λ end least side. step_going leads (i.going end least side) hop _ c.in-Some-next_useful.ensures.hop c.requires.falls c.relax.ensures.relaxes c.relax.ensures.asked;
      meets = step_met leads (i.going side.0 side.1 side.2) hop _ c.in-Some-next_useful.ensures.hop c.requires.falls c.relax.ensures.relaxes c.args.other.now c.hops.met c.best_over-met.result i.meets c.best_over-met.ensures.node c.best_over-met.ensures.others c.best_over-met.ensures.found;
    }

pub returns-clause-side : goal.returns-clause-side
returns-clause-side g c = λ end least next is side.
    let i = c.hops.invariant.going end least side in
    let same : next ≡ (c.in-Some.node, c.in-Some._key) = let a = c.in-Some.is in cc in
    let key : next.1 ≡ c.in-Some._key = ap (λ (f : NodeId × ℕ). f.1) same in
    let pop = c.pop_least-self.ensures in
    rw key (end_going (g.met.V.RoadView.leads c.args.view.now) i c.in_default-next_useful.ensures.end c.pop_least-self.result c.pop_least-self.new.self (popped c.pop_least-self.result c.hops.self.queue c.pop_least-self.new.self pop.none pop.stays pop.found pop.least pop.taken))
