use Rattle.std.proofs.Common.{◌≡◌, ◌≤◌, ◌*◌, ◌^◌, take}
use Rattle.script_service.specs.Collecting.{replies_heard}
use Rattle.generated_run.specs.Summaries.{summary_from}
use Rattle.generated_run.proofs.summing.summary_by.Given as goal

abbrev pub invariant-loop-one : goal.invariant-loop-one
invariant-loop-one l = record {
  summary : l.summary ≡ summary_from l.nodes l.edges (replies_heard (take l.one-index l.heard)) l.entries;
  landmarks : l.summary.landmarks ≤ l.one-index * 2 ^ 64;
  routes : l.summary.routes ≤ l.one-index;
  weight : l.summary.weight ≤ l.one-index * 2 ^ 64;
}
