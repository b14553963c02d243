use Rattle.std.proofs.Common.{◌≡◌, ◌+◌, ◌<◌, Some, None, length, replicate, Contains, refl, sym, subst, ap, ◌∙◌, arith}
use Rattle.std.specs.Prelude.{slice_set}
use Rattle.walk_rules.specs.Walks.{hops_from}
use Rattle.walk_rules.proofs.Counting.{count_below-le}
use Rattle.alt_search.specs.declared.reach.Reach.{Reach}
use Rattle.alt_search.specs.Progress.{reach_at, is_settled, is_known_within}
use Rattle.alt_search.proofs.Listed.{emptied}
use Rattle.alt_search.proofs.Begin.{begin_empty, begin_at}
use Rattle.alt_search.proofs.Settle.{settle_ordered}
use Rattle.alt_search.proofs.Relax.{relax_ordered, relax_settled}
use Rattle.alt_search.proofs.Useful.{first_left, later_left, fewer_left, leave_passed}
use Rattle.alt_search.proofs.Underway.{settle_underway, relax_underway}
use Rattle.alt_search.proofs.expansion.expand.Goals as goal
use Rattle.alt_search.proofs.expansion.expand.Goals.{in-Some, in_default}

pub nodes-init : goal.nodes-init
nodes-init g c =
    let network = g.V.RoadView.network c.args.view.now in
    let bound = g.P.Potential.bound c.args.potential.now in
    let n = c.node_count-count.result in
    let reached : c.in_ok-reached.reached ≡ replicate n None = c.in_ok-reached.ensures in
    let keys : c.in_ok-queue.queue ≡ replicate n None = c.in_ok-queue.ensures in
    elim c.match-at.branch [
      | in-Some w ↦
          let is : bound c.args.start.0 ≡ Some w.from.result = sym c.at.ensures ∙ w.in-Some.is ∙ ap Some (sym w.from.ensures) in
          let begin = begin_at network bound c.args.start.0 c.args.target.0 n w.from.result c.node_count-count.ensures c.requires.start is in
          let r = w.reached-is ∙ w.begin.ensures ∙ ap (λ xs. slice_set xs c.args.start.0 (Some (record { weight = 0; depth = 0; last = None }))) reached in
          let k = w.queue-is ∙ w.put.ensures ∙ ap (λ xs. slice_set xs c.args.start.0 (Some w.from.result)) keys in
          rw (r, k) (record { same = refl; starts = omega arith; few = omega (arith, c.node_count-count.ensures, c.node_count-count.type_inv); underway = begin.0; in_order = λ f. record { least = 0; node = 0; ordered = begin.1 } })
      | in_default w ↦
          let begin = begin_empty network bound c.args.start.0 c.args.target.0 n c.node_count-count.ensures (sym c.at.ensures ∙ w.in_default.is) in
          let r = w.reached-is ∙ reached in
          let k = w.queue-is ∙ keys in
          rw (r, k) (record { same = refl; starts = omega arith; few = omega (arith, c.node_count-count.ensures, c.node_count-count.type_inv); underway = begin.0; in_order = λ f. record { least = 0; node = 0; ordered = begin.1 } })
    ]

pub overflow_add-settled : goal.overflow_add-settled
overflow_add-settled g c =
    let i = c.nodes.invariant in
    let p = c.in-Some-pop_least in
    let w = settle_underway p.node.0 p._key i.underway p.ensures.found c.if-node-target.false in
    omega (arith, w.counted, i.few, count_below-le (is_settled c.nodes.reached (slice_set c.nodes.queue p.node.0 None)) ((g.V.RoadView.network c.args.view.now).nodes))

pub hops-init : goal.hops-init
hops-init g c =
    let network = g.V.RoadView.network c.args.view.now in
    let bound = g.P.Potential.bound c.args.potential.now in
    let i = c.nodes.invariant in
    let p = c.in-Some-pop_least in
    let place = p.node.0 in
    let from = c.in-Some-reach.from in
    let reach : reach_at c.nodes.reached place ≡ Some from = sym c.reach.ensures ∙ c.in-Some-reach.is in
    let w = settle_underway place p._key i.underway p.ensures.found c.if-node-target.false in
    let left : g.V.RoadView.left c.start_at.new.self ≡ hops_from network place = c.start_at.ensures.left ∙ ap (λ r. hops_from r place) i.same in
    rw p.ensures.taken (record {
      same = c.start_at.ensures.network ∙ i.same;
      starts = omega (arith, c.start_at.ensures.starts, i.starts);
      few = i.few;
      underway = w;
      from_settled = record { reach_is = reach; no_key = emptied c.nodes.queue place };
      deep = omega (arith, (i.underway.tree.small place from reach).0);
      rest = λ hop h. subst (λ xs. Contains xs hop) left h;
      ordered = λ f.
          let o = i.in_order f in
          let q = i.underway.tree.queued place p._key p.ensures.found in
          let same : q.0 ≡ from = let a = q.2 in cc in
          let weighs : q.0.weight ≡ from.weight = ap (λ (r : Reach). r.weight) same in
          let sum : p._key ≡ from.weight + q.1 = q.4 ∙ ap (λ n. n + q.1) weighs in
          let settled = settle_ordered place p._key i.underway.tree o.ordered p.ensures.found p.ensures.least in
          (q.1, q.3, rw (left, ← sum) settled);
    })

pub relax-requires-clause-reached : goal.relax-requires-clause-reached
relax-requires-clause-reached g c =
    let i = c.hops.invariant in
    let hop = c.in-Some-next_useful.hop in
    let on_left = first_left (is_known_within c.hops.reached c.in-Some-reach.from.weight) (g.V.RoadView.left c.hops.view) hop (g.V.RoadView.left c.next_useful.new.view) c.in-Some-next_useful.ensures.hop in
    omega (arith, i.underway.long_reached, g.met.V.RoadView.leads c.args.view.now c.in-Some-pop_least.node.0 hop (i.rest hop on_left))

pub relax-requires-clause-keys : goal.relax-requires-clause-keys
relax-requires-clause-keys g c =
    let i = c.hops.invariant in
    let hop = c.in-Some-next_useful.hop in
    let on_left = first_left (is_known_within c.hops.reached c.in-Some-reach.from.weight) (g.V.RoadView.left c.hops.view) hop (g.V.RoadView.left c.next_useful.new.view) c.in-Some-next_useful.ensures.hop in
    omega (arith, i.underway.long_keys, g.met.V.RoadView.leads c.args.view.now c.in-Some-pop_least.node.0 hop (i.rest hop on_left))

pub relax-requires-clause-depth : goal.relax-requires-clause-depth
relax-requires-clause-depth g c =
    let i = c.hops.invariant in
    let u = i.underway in
    omega (arith, i.deep, i.few, u.counted, count_below-le (is_settled c.hops.reached c.hops.queue) ((g.V.RoadView.network c.args.view.now).nodes))

pub hops-preserved : goal.hops-preserved
hops-preserved g c =
    let network = g.V.RoadView.network c.args.view.now in
    let bound = g.P.Potential.bound c.args.potential.now in
    let i = c.hops.invariant in
    let u = i.underway in
    let hop = c.in-Some-next_useful.hop in
    let on_left = first_left (is_known_within c.hops.reached c.in-Some-reach.from.weight) (g.V.RoadView.left c.hops.view) hop (g.V.RoadView.left c.next_useful.new.view) c.in-Some-next_useful.ensures.hop in
    let contains = i.rest hop on_left in
    let in_range : hop.to.0 < network.nodes = g.met.V.RoadView.leads c.args.view.now c.in-Some-pop_least.node.0 hop contains in
    let in_reached : hop.to.0 < length c.hops.reached = omega (arith, u.long_reached) in
    let in_keys : hop.to.0 < length c.hops.queue = omega (arith, u.long_keys) in
    let r = c.relax.ensures in
    let w = relax_underway u i.from_settled contains in_range i.deep r in
    record {
      same = c.in-Some-next_useful.ensures.network ∙ i.same;
      starts = omega (arith, c.in-Some-next_useful.ensures.starts, i.starts);
      few = i.few;
      underway = w;
      from_settled = relax_settled u.tree i.from_settled contains in_reached in_keys r c.in-Some-pop_least.node.0 c.in-Some-reach.from i.from_settled;
      deep = i.deep;
      rest = λ h l. i.rest h (later_left (is_known_within c.hops.reached c.in-Some-reach.from.weight) (g.V.RoadView.left c.hops.view) hop (g.V.RoadView.left c.next_useful.new.view) c.in-Some-next_useful.ensures.hop h l);
      ordered = λ f.
          let o = i.ordered f in
          (o.0, o.1, relax_ordered u.tree i.from_settled contains in_reached in_keys r f o.1 (g.V.RoadView.left c.next_useful.new.view) (rw c.in-Some-next_useful.ensures.hop at (leave_passed i.from_settled (g.V.RoadView.left c.hops.view) o.2)));
    }

pub nodes-preserved : goal.nodes-preserved
nodes-preserved g c =
    let i = c.hops.invariant in
    let end = c.in_default-next_useful.ensures in
    record {
      same = end.network ∙ i.same;
      starts = omega (arith, end.starts, i.starts);
      few = i.few;
      underway = i.underway;
      in_order = λ f.
          let o = i.ordered f in
          record { least = c.in-Some-reach.from.weight + o.0; node = c.in-Some-pop_least.node.0; ordered = rw end.end at (leave_passed i.from_settled (g.V.RoadView.left c.hops.view) o.2) };
    }

pub hops-smaller : goal.hops-smaller
hops-smaller g c = omega (arith, fewer_left (is_known_within c.hops.reached c.in-Some-reach.from.weight) (g.V.RoadView.left c.hops.view) c.in-Some-next_useful.hop (g.V.RoadView.left c.next_useful.new.view) c.in-Some-next_useful.ensures.hop)

pub nodes-smaller : goal.nodes-smaller
nodes-smaller g c =
    let u = c.hops.invariant.underway in
    omega (arith, u.counted, count_below-le (is_settled c.hops.reached c.hops.queue) ((g.V.RoadView.network c.args.view.now).nodes))

pub returns-then-node-target-clause-done : goal.returns-then-node-target-clause-done
returns-then-node-target-clause-done g c =
    let i = c.nodes.invariant in
    let p = c.in-Some-pop_least in
    record {
      open_keys = c.nodes.queue;
      underway = i.underway;
      in_order = i.in_order;
      stops = (
        record { key = p._key; key_is = rw (← c.if-node-target.true) p.ensures.found; least = p.ensures.least },
        rw (← c.if-node-target.true) p.ensures.taken,
      );
    }

pub returns-clause-done : goal.returns-clause-done
returns-clause-done g c =
    let i = c.nodes.invariant in
    record { open_keys = c.nodes.queue; underway = i.underway; in_order = i.in_order; stops = (c.in_default-pop_least.ensures.none, c.in_default-pop_least.ensures.stays) }

pub returns-then-node-target-clause-rise : goal.returns-then-node-target-clause-rise
returns-then-node-target-clause-rise g c =
    let u = c.nodes.invariant.underway in
    omega (arith, c.nodes.invariant.starts, u.counted, count_below-le (is_settled c.nodes.reached c.nodes.queue) ((g.V.RoadView.network c.args.view.now).nodes))

pub returns-clause-rise : goal.returns-clause-rise
returns-clause-rise g c =
    let u = c.nodes.invariant.underway in
    omega (arith, c.nodes.invariant.starts, u.counted, count_below-le (is_settled c.nodes.reached c.nodes.queue) ((g.V.RoadView.network c.args.view.now).nodes))

pub unreachable-requires : goal.unreachable-requires
unreachable-requires g c =
    let p = c.in-Some-pop_least in
    let q = c.nodes.invariant.underway.tree.queued p.node.0 p._key p.ensures.found in
    c.in_default-reach.not-Some q.0 (c.reach.ensures ∙ q.2)

pub relax-requires-clause-weight : goal.relax-requires-clause-weight
relax-requires-clause-weight g c =
    let i = c.hops.invariant in
    (i.underway.tree.small c.in-Some-pop_least.node.0 c.in-Some-reach.from i.from_settled.reach_is).1
