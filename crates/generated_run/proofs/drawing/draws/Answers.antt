use Rattle.std.proofs.Common.{◌∙◌, ◌/◌, ap}
use Rattle.generated_run.specs.Draws.{draw}
use Rattle.generated_run.proofs.Counted.{pushed, state_next}
use Rattle.generated_run.proofs.drawing.draws.Goals as goal

pub loop-preserved : goal.loop-preserved
loop-preserved c =
    let step = c.next-state.ensures ∙ state_next c.args.size c.loop.counter _ c.loop.invariant.state in
    record {
      state = step;
      draws = pushed (draw c.args.size) _ _ c.loop.counter _ c.loop.invariant.draws c.in_ok-push.ensures.items (ap (λ s. s / 65536) step);
    }
