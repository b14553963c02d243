use Rattle.std.proofs.Common.{◌≡◌, ◌+◌, ◌<◌, ◌∷◌, [], ◌++◌, List, length, length-append, map, sym, ap, ◌∙◌, inr, arith}
use Rattle.std.proofs.lemmas.List.{length-map, map-append}
use Rattle.gh_base.specs.declared.edges.NodeId.{NodeId}
use Rattle.landmark_choice.specs.Farthest.{distance_at}
use Rattle.landmark_choice.proofs.Choosing.{own_distance, farthest_of, greatest_from, first_one, one_more, near_none, all_near}
use Rattle.landmark_choice.proofs.farthest.choose.Goals as goal

pub unreachable-requires : goal.unreachable-requires
unreachable-requires g c =
    own_distance (g.V.RoadView.network c.args.view.now) c.args.start.0 (distance_at c.in_ok-from_start.from_start.items c.args.start.0) (c.in_ok-from_start.ensures.near c.args.start.0)
    (ap (λ xs. distance_at xs c.args.start.0) (sym c.deref.ensures.value) ∙ c.in_default.ensures.none c.args.start.0)

pub more-init : goal.more-init
more-init g c =
    let network = g.V.RoadView.network c.args.view.now in
    let chosen : c.push.new.self ≡ c.in-Some.first ∷ [] = c.in_ok-push.ensures.ok ∙ ap (λ (xs : List NodeId). xs ++ c.in-Some.first ∷ []) c.new-landmarks.ensures in
    let first = farthest_of network (c.args.start.0 ∷ []) c.in_ok-from_start.from_start.items c.in-Some.first.0 c.in-Some.far_ms c.in_ok-from_start.ensures.near (rw c.deref.ensures.value at c.in-Some.ensures.some) in
    rw chosen (record {
      long = omega (arith, c.forget-near.ensures.count, c.in_ok-from_start.ensures.count);
      few = omega arith;
      last = omega (arith, c.in-Some.ensures.within, ap length c.deref.ensures.value, c.in_ok-from_start.ensures.count);
      near = λ next more. more [] (near_none network (distance_at c.forget-near.result.items) c.forget-near.ensures.none);
      each = first_one network c.args.start.0 c.in-Some.first.0 c.in-Some.far_ms first;
    })

pub returns-in_default-greatest-clause-landmarks : goal.returns-in_default-greatest-clause-landmarks
returns-in_default-greatest-clause-landmarks g c = record {
  each = c.more.invariant.each;
  within = omega (arith, c.more.invariant.few, length-map c.more.landmarks (λ (node : NodeId). node.0));
  ends = inr (all_near (g.V.RoadView.network c.args.view.now) (map (λ (node : NodeId). node.0) c.more.landmarks) c.in_ok-near.near.items (c.more.invariant.near (distance_at c.in_ok-near.near.items) c.in_ok-near.ensures.near)
      (λ node d s. absurd (let n = ap (λ xs. distance_at xs node) (sym c.deref-in-more.ensures.value) ∙ c.in_default-greatest.ensures.none node in cc)));
}

pub returns-in_default-greatest-clause-far : goal.returns-in_default-greatest-clause-far
returns-in_default-greatest-clause-far g c =
    greatest_from (g.V.RoadView.network c.args.view.now) c.args.start.0 c.in_ok-from_start.from_start.items c.in-Some.first.0 c.in-Some.far_ms c.in_ok-from_start.ensures.near (rw c.deref.ensures.value at c.in-Some.ensures.some)

pub returns-then-far-eq0-clause-landmarks : goal.returns-then-far-eq0-clause-landmarks
returns-then-far-eq0-clause-landmarks g c = record {
  each = c.more.invariant.each;
  within = omega (arith, c.more.invariant.few, length-map c.more.landmarks (λ (node : NodeId). node.0));
  ends = inr (all_near (g.V.RoadView.network c.args.view.now) (map (λ (node : NodeId). node.0) c.more.landmarks) c.in_ok-near.near.items (c.more.invariant.near (distance_at c.in_ok-near.near.items) c.in_ok-near.ensures.near)
      (λ node d s. omega (arith, c.if-far-eq0.true, c.in-Some-greatest.ensures.some.greatest node d (ap (λ xs. distance_at xs node) c.deref-in-more.ensures.value ∙ s))));
}

pub returns-then-far-eq0-clause-far : goal.returns-then-far-eq0-clause-far
returns-then-far-eq0-clause-far g c =
    greatest_from (g.V.RoadView.network c.args.view.now) c.args.start.0 c.in_ok-from_start.from_start.items c.in-Some.first.0 c.in-Some.far_ms c.in_ok-from_start.ensures.near (rw c.deref.ensures.value at c.in-Some.ensures.some)

pub more-preserved : goal.more-preserved
more-preserved g c =
    let network = g.V.RoadView.network c.args.view.now in
    let i = c.more.invariant in
    let node = c.in-Some-greatest.node in
    let before = map (λ (n : NodeId). n.0) c.more.landmarks in
    let push = c.in_ok-push-2.ensures.ok in
    let pushed : map (λ (n : NodeId). n.0) c.push-in-more.new.self ≡ before ++ node.0 ∷ [] = ap (map (λ (n : NodeId). n.0)) push ∙ map-append (λ (n : NodeId). n.0) c.more.landmarks (node ∷ []) in
    let longer : length c.push-in-more.new.self ≡ length c.more.landmarks + 1 = ap length push ∙ length-append c.more.landmarks (node ∷ []) in
    let less : length c.more.landmarks < c.args.count = omega (arith, c.more-test.true, c.len.ensures) in
    let near = i.near (distance_at c.in_ok-near.near.items) c.in_ok-near.ensures.near in
    let far = farthest_of network before c.in_ok-near.near.items node.0 c.in-Some-greatest.far near (rw c.deref-in-more.ensures.value at c.in-Some-greatest.ensures.some) in
    rw pushed (record {
      long = c.in_ok-near.ensures.count;
      few = omega arith;
      last = omega (arith, c.in-Some-greatest.ensures.within, ap length c.deref-in-more.ensures.value, c.in_ok-near.ensures.count);
      near = λ next more. more before near;
      each = one_more network c.args.start.0 before node.0 c.in-Some-greatest.far i.each far (omega (arith, c.if-far-eq0.false));
    })

pub returns-clause-far : goal.returns-clause-far
returns-clause-far g c =
    greatest_from (g.V.RoadView.network c.args.view.now) c.args.start.0 c.in_ok-from_start.from_start.items c.in-Some.first.0 c.in-Some.far_ms c.in_ok-from_start.ensures.near (rw c.deref.ensures.value at c.in-Some.ensures.some)
