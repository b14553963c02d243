use Rattle.std.proofs.Common.{◌≡◌, ℕ, ◌+◌, [], ◌∷◌, length, reverse, length-append, sym, subst, ap, ◌∙◌, arith}
use Rattle.std.proofs.lemmas.List.{length-reverse}
use Rattle.walk_rules.specs.Walks.{IsWalk, weight_of}
use Rattle.alt_search.specs.Progress.{reach_at, depth_of}
use Rattle.alt_search.proofs.Trees.{step_back, back_walk}
use Rattle.walk_rules.proofs.Options.{some_of}
use Rattle.alt_search.proofs.tracing.walk_to.Goals as goal

pub loop-step-smaller : goal.loop-step-smaller
loop-step-smaller c = omega (arith, (step_back c.args.reached.now c.loop-step.node.0 _ c.in-Some.step c.requires.chain c.loop-step.invariant.here c.last_step.ensures c.in-Some.is).1)

pub loop-step-preserved : goal.loop-step-preserved
loop-step-preserved c = record {
  here = (step_back c.args.reached.now c.loop-step.node.0 _ c.in-Some.step c.requires.chain c.loop-step.invariant.here c.last_step.ensures c.in-Some.is).0;
  depth =
      let back = step_back c.args.reached.now c.loop-step.node.0 _ c.in-Some.step c.requires.chain c.loop-step.invariant.here c.last_step.ensures c.in-Some.is in
      let long : length c.push.new.self.items ≡ length c.loop-step.hops.items + 1 = ap length c.in_ok-push.ensures.items ∙ length-append c.loop-step.hops.items (c.in-Some.step.hop ∷ []) in
      omega (arith, back.1, c.loop-step.invariant.depth);
  walk = λ network bound start settled keys reach last t r l.
      let here = some_of (reach_at c.args.reached.now c.loop-step.node.0) c.loop-step.invariant.here in
      let so_far = c.loop-step.invariant.walk network bound start settled keys here.0 last t here.1 l in
      let on = back_walk t c.loop-step.node.0 here.0 c.in-Some.step c.loop-step.hops.items c.push.new.self.items c.args.target.0 here.1 (sym (c.last_step.ensures here.0 here.1) ∙ c.in-Some.is) c.in_ok-push.ensures.items so_far.0 reach r in
      (on.0, on.1 ∙ so_far.1);
}

pub returns : goal.returns
returns c = λ network bound start settled keys reach t r.
    let here = some_of (reach_at c.args.reached.now c.loop-step.node.0) c.loop-step.invariant.here in
    let so_far = c.loop-step.invariant.walk network bound start settled keys here.0 reach t here.1 r in
    let root = t.root c.loop-step.node.0 here.0 here.1 (sym (c.last_step.ensures here.0 here.1) ∙ c.in_default.is) in
    let turned : c.from_vec.result ≡ reverse c.loop-step.hops.items = c.from_vec.ensures ∙ c.reverse.ensures.items in
    let long : length c.from_vec.result ≡ length c.loop-step.hops.items = ap length turned ∙ length-reverse c.loop-step.hops.items in
    let starts : depth_of (reach_at c.args.reached.now c.loop-step.node.0) ≡ here.0.depth = ap depth_of here.1 in
    let ends : depth_of (reach_at c.args.reached.now c.args.target.0) ≡ reach.depth = ap depth_of r in
    let heavy : weight_of c.from_vec.result ≡ weight_of (reverse c.loop-step.hops.items) = ap weight_of turned in
    (subst (λ xs. IsWalk network start xs c.args.target.0) (sym turned) (subst (λ (n : ℕ). IsWalk network n (reverse c.loop-step.hops.items) c.args.target.0) root.0 so_far.0), omega arith, omega (arith, long, ends, starts, root.2, c.loop-step.invariant.depth))
