use Rattle.std.proofs.Common.{◌∙◌, ◌+◌, ◌*◌, ap, arith}
use Rattle.generated_run.specs.Scripts.{lowering_at, lowering_by, preparing}
use Rattle.generated_run.proofs.Counted.{drawn, pushed_behind}
use Rattle.generated_run.proofs.scripting.first_phase.Goals as goal

pub loop-k-preserved : goal.loop-k-preserved
loop-k-preserved c =
    let k = c.loop-k.k in
    let draw_is = drawn c.args.size c.args.draws.now (2 * c.args.size + k) c.requires.draws (omega (arith, c.requires.enough, c.loop-k-test.true)) in
    pushed_behind preparing (lowering_at c.args.size c.args.edges) _ _ k _ c.loop-k.invariant c.in_ok-push-2.ensures.ok (c.lowering_at.ensures ∙ ap (lowering_by c.args.edges k) draw_is)
