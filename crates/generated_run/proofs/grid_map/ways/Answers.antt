use Rattle.generated_run.specs.Maps.{way_at}
use Rattle.generated_run.proofs.Counted.{drawn, pushed}
use Rattle.generated_run.proofs.grid_map.ways.Goals as goal
use Rattle.std.proofs.Common.{arith}

pub way_at-requires-clause-drawn : goal.way_at-requires-clause-drawn
way_at-requires-clause-drawn c = drawn c.args.size c.args.draws.now c.loop-n.n c.requires.draws (omega (arith, c.requires.enough, c.loop-n-test.true))

pub loop-n-preserved : goal.loop-n-preserved
loop-n-preserved c = pushed (way_at c.args.size) _ _ c.loop-n.n _ c.loop-n.invariant c.in_ok-push.ensures.ok c.in_ok-way_at.ensures
