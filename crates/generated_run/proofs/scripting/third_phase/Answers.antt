use Rattle.std.proofs.Common.{◌∙◌, ◌+◌, ◌*◌, ap, arith, get_or}
use Rattle.generated_run.specs.Draws.{draw}
use Rattle.generated_run.specs.Scripts.{route_at, route_by}
use Rattle.generated_run.proofs.Counted.{drawn, pushed}
use Rattle.generated_run.proofs.scripting.third_phase.Goals as goal

pub loop-k-preserved : goal.loop-k-preserved
loop-k-preserved c =
    let size = c.args.size in
    let draws = c.args.draws.now in
    let k = c.loop-k.k in
    let start = drawn size draws (2 * size + 8 + 2 * k) c.requires.draws (omega (arith, c.requires.enough, c.loop-k-test.true)) in
    let target = drawn size draws (2 * size + 8 + 2 * k + 1) c.requires.draws (omega (arith, c.requires.enough, c.loop-k-test.true)) in
    pushed (route_at size) _ _ k _ c.loop-k.invariant c.in_ok-push.ensures.ok
    (c.route_at.ensures ∙ ap (λ s. route_by size k s (get_or draws (2 * size + 8 + 2 * k + 1) 0)) start ∙ ap (λ t. route_by size k (draw size (2 * size + 8 + 2 * k)) t) target)
