use Rattle.std.proofs.Common.{◌≡◌, false, [], ◌++◌, Contains, sym, subst, ap, ◌∙◌, arith}
use Rattle.walk_rules.specs.Walks.{hops_from}
use Rattle.label_certificate.specs.Refuting.{IsFirst}
use Rattle.label_certificate.proofs.Reasons.{contains_middle, one_more_fine, all_given}
use Rattle.label_certificate.proofs.hop_test.test_hops.Goals as goal

pub loop-hop-init : goal.loop-hop-init
loop-hop-init g c =
    let i = c.loop-node.invariant in
    record {
      same = c.start_at.ensures.network ∙ i.same;
      starts = omega (arith, c.start_at.ensures.starts, i.starts);
      before = i.before;
      earlier = ([], sym (c.start_at.ensures.left ∙ ap (λ n. hops_from n c.loop-node.node) i.same), λ hop h. absurd (omega (arith, h.1)));
    }

pub fails_at-requires-clause-head : goal.fails_at-requires-clause-head
fails_at-requires-clause-head g c =
    let network = g.V.RoadView.network c.args.view.now in
    let i = c.loop-hop.invariant in
    let hop = c.in-Some.hop in
    let on : Contains (hops_from network c.loop-node.node) hop = subst (λ xs. Contains xs hop) (sym (i.earlier.1 ∙ ap (λ xs. i.earlier.0 ++ xs) c.in-Some.ensures.hop)) (contains_middle i.earlier.0 (g.V.RoadView.left c.next_hop.new.self) hop) in
    omega (arith, c.requires.nodes, g.met.V.RoadView.leads c.args.view.now c.loop-node.node hop on)

pub loop-hop-preserved-else-fails_at : goal.loop-hop-preserved-else-fails_at
loop-hop-preserved-else-fails_at g c =
    let i = c.loop-hop.invariant in
    let hop = c.in-Some.hop in
    let fine : g.T.HopTest.fails c.args.test.now c.loop-node.node hop ≡ false = sym c.fails_at.ensures ∙ c.if-fails_at.false in
    record {
      same = c.in-Some.ensures.network ∙ i.same;
      starts = omega (arith, c.in-Some.ensures.starts, i.starts);
      before = i.before;
      earlier = one_more_fine (g.T.HopTest.fails c.args.test.now c.loop-node.node) i.earlier (g.V.RoadView.left c.next_hop.new.self) hop c.in-Some.ensures.hop fine;
    }

pub loop-hop-preserved : goal.loop-hop-preserved
loop-hop-preserved g c =
    let i = c.loop-hop.invariant in
    let hop = c.in-Some.hop in
    let fine : g.T.HopTest.fails c.args.test.now c.loop-node.node hop ≡ false = g.met.T.HopTest.barred c.args.test.now c.loop-node.node hop c.in_default-weight.is in
    record {
      same = c.in-Some.ensures.network ∙ i.same;
      starts = omega (arith, c.in-Some.ensures.starts, i.starts);
      before = i.before;
      earlier = one_more_fine (g.T.HopTest.fails c.args.test.now c.loop-node.node) i.earlier (g.V.RoadView.left c.next_hop.new.self) hop c.in-Some.ensures.hop fine;
    }

pub loop-node-preserved : goal.loop-node-preserved
loop-node-preserved g c =
    let network = g.V.RoadView.network c.args.view.now in
    let i = c.loop-hop.invariant in
    record {
      same = c.in_default.ensures.network ∙ i.same;
      starts = omega (arith, c.in_default.ensures.starts, i.starts);
      end = c.loop-node.invariant.end;
      before = all_given network (g.T.HopTest.fails c.args.test.now) c.loop-node.node (g.V.RoadView.left c.loop-hop.view) i.before i.earlier c.in_default.ensures.end;
    }

pub returns-then-fails_at-clause-first : goal.returns-then-fails_at-clause-first
returns-then-fails_at-clause-first g c =
    let network = g.V.RoadView.network c.args.view.now in
    let i = c.loop-hop.invariant in
    let hop = c.in-Some.hop in
    let first : IsFirst network (g.T.HopTest.fails c.args.test.now) c.loop-node.node hop = record {
      at = sym c.fails_at.ensures ∙ c.if-fails_at.true;
      before = i.before;
      earlier = i.earlier.0;
      later = g.V.RoadView.left c.next_hop.new.self;
      in_order = i.earlier.1 ∙ ap (λ xs. i.earlier.0 ++ xs) c.in-Some.ensures.hop;
      none_earlier = i.earlier.2;
    } in
    (tt, subst (λ w. IsFirst network (g.T.HopTest.fails c.args.test.now) c.loop-node.node (record { to = hop.to; by = hop.by; weight = w })) c.in-Some-weight.is first)

pub returns-clause-none : goal.returns-clause-none
returns-clause-none g c = λ node hop l h. c.loop-node.invariant.before node hop (omega (arith, c.loop-node.invariant.end, c.loop-node-test.false)) h
