use Rattle.std.proofs.Common.{rules, ◌≡◌, ◌∙◌}
use Rattle.std.specs.Int.{w64, cast_signed, cast_unsigned}
use Rattle.generated_run.specs.Maps.{ref_at}
use Rattle.generated_run.proofs.Counted.{pushed}
use Rattle.generated_run.proofs.grid_map.refs_of.Goals as goal

pub loop-k-preserved : goal.loop-k-preserved
loop-k-preserved c =
    let same : cast_signed w64 (cast_unsigned w64 c.ref_at.result) ≡ c.ref_at.result = search rules in
    pushed (ref_at c.args.size c.args.n) _ _ c.loop-k.k _ c.loop-k.invariant c.in_ok-push.ensures.ok (same ∙ c.ref_at.ensures)
