use Rattle.std.proofs.Common.{◌<◌, ℕ, All, List, ◌++◌, length, Result}
use Rattle.std.specs.List.{AllZip}
use Rattle.gh_base.specs.declared.faults.NoMemory.{NoMemory}
use Rattle.landmark_prep.specs.declared.spreading.Job.{Job}
use Rattle.landmark_prep.specs.Jobs.{Gives}
use Rattle.landmark_prep.proofs.spreading.run_jobs.Given as goal

-- with what the jobs that are left give, each has given its row
abbrev pub invariant-batches : goal.invariant-batches
invariant-batches g l = record {
  nodes : All (λ (job : Job). job.landmark.0 < (g.V.RoadView.network l.out).nodes) l.left.items;
  rows : (rest : List (Result (List ℕ) NoMemory)) → AllZip (Gives (g.V.RoadView.network l.out) l.grain) l.left.items rest →
      AllZip (Gives (g.V.RoadView.network l.out) l.grain) l.fn.jobs.items (l.rows.items ++ rest);
}

abbrev pub decreases-batches : goal.decreases-batches
decreases-batches g l = length l.left.items
