use Rattle.std.proofs.Common.{◌≡◌, ◌++◌, drop}
use Rattle.landmark_prep.specs.Jobs.{jobs_for}
use Rattle.landmark_prep.proofs.spreading.list_jobs.Given as goal

-- the jobs so far, and those that are left
abbrev pub invariant-loop-landmark : goal.invariant-loop-landmark
invariant-loop-landmark l = l.jobs.items ++ jobs_for (drop l.landmark-index l.landmarks) ≡ jobs_for l.landmarks
