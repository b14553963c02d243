use Rattle.std.proofs.Common.{◌∙◌, ap, sym, arith}
use Rattle.generated_run.specs.declared.summing.Summary.{Summary}
use Rattle.generated_run.specs.Summaries.{with_reply}
use Rattle.generated_run.proofs.Sums.{summary_more}
use Rattle.generated_run.proofs.summing.summary_by.Goals as goal

pub loop-one-preserved : goal.loop-one-preserved
loop-one-preserved c =
    let inv = c.loop-one.invariant in
    let told = c.with_reply-summary.ensures in
    let one = c.one-item.result in
    record {
      summary = told.summary ∙ ap (λ (s : Summary). with_reply s one.told.reply) inv.summary ∙ sym (summary_more c.args.nodes c.args.edges c.args.entries c.args.heard.now c.loop-one.one-index one c.loop-one-test.true c.one-item.is);
      landmarks = omega (arith, inv.landmarks, told.landmarks);
      routes = omega (arith, inv.routes, told.routes);
      weight = omega (arith, inv.weight, told.weight);
    }
