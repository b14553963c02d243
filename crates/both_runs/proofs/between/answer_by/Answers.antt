use Rattle.both_runs.proofs.Views.{over_edges}
use Rattle.both_runs.proofs.between.answer_by.Goals as goal

pub walk_mm-mm-requires : goal.walk_mm-mm-requires
walk_mm-mm-requires g c =
    let least = rw c.in-Walk.is at c.in_ok-forward.ensures.least in
    over_edges c.args.ground.now c.graph.ensures c.graph.result.now.facts c.args.from.0 c.args.to.0 c.as_slice.ensures least.0.walk
