use Rattle.std.proofs.Common.{◌≡◌, ◌+◌, ap, sym, ◌∙◌, arith}
use Rattle.walk_rules.proofs.Options.{some_of}
use Rattle.alt_search.specs.declared.reach.Reach.{Reach}
use Rattle.alt_search.specs.Progress.{reach_at}
use Rattle.alt_search.proofs.Trees.{step_back}
use Rattle.two_way_search.proofs.Trees.{spare, as_plain}
use Rattle.two_way_search.proofs.Onward.{join_step, join_end}
use Rattle.two_way_search.proofs.joining.walk_over.Goals as goal

pub loop-step-init : goal.loop-step-init
loop-step-init c = record {
  here = c.requires.there;
  walk = λ out back bound other start target settled count keys rest first there at turned t u f b a.
      let walk = c.in_ok-hops.ensures out (spare c.args.forward.now keys) start settled keys first (as_plain t) f in
      let same : there ≡ at = cc in
      let weighs : there.weight ≡ at.weight = ap (λ (r : Reach). r.weight) same in
      let deep : there.depth ≡ at.depth = ap (λ (r : Reach). r.depth) same in
      (walk.0, let w = walk.1 in omega arith, let d = walk.2 in omega arith);
}

pub loop-step-smaller : goal.loop-step-smaller
loop-step-smaller c = omega (arith, (step_back c.args.backward.now c.loop-step.at.0 _ c.in-Some.step c.requires.chain_back c.loop-step.invariant.here c.last_step.ensures c.in-Some.is).1)

pub loop-step-preserved : goal.loop-step-preserved
loop-step-preserved c = record {
  here = (step_back c.args.backward.now c.loop-step.at.0 _ c.in-Some.step c.requires.chain_back c.loop-step.invariant.here c.last_step.ensures c.in-Some.is).0;
  walk = λ out back bound other start target settled count keys rest first there at turned t u f b a.
      let here = some_of (reach_at c.args.backward.now c.loop-step.at.0) c.loop-step.invariant.here in
      let so_far = c.loop-step.invariant.walk out back bound other start target settled count keys rest first there here.0 turned t u f b here.1 in
      join_step turned u c.loop-step.at.0 here.0 at c.in-Some.step here.1 (sym (c.last_step.ensures here.0 here.1) ∙ c.in-Some.is) a c.loop-step.hops c.push.new.self c.in_ok-push.ensures.ok start (first.weight + there.weight) (first.depth + there.depth) so_far.0 so_far.1 so_far.2;
}

pub returns : goal.returns
returns c = λ out back bound other start target settled count keys rest first there turned t u f b.
    let here = some_of (reach_at c.args.backward.now c.loop-step.at.0) c.loop-step.invariant.here in
    let so_far = c.loop-step.invariant.walk out back bound other start target settled count keys rest first there here.0 turned t u f b here.1 in
    join_end turned u c.loop-step.at.0 here.0 here.1 (sym (c.last_step.ensures here.0 here.1) ∙ c.in_default.is) c.loop-step.hops start (first.weight + there.weight) (first.depth + there.depth) so_far.0 so_far.1 so_far.2
