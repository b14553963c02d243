use Rattle.std.proofs.Common.{length, ap, arith}
use Rattle.std.proofs.lemmas.Result.{IfOk-weaker}
use Rattle.std.proofs.lemmas.Slice.Zip.{AllZip-long}
use Rattle.landmark_prep.specs.Jobs.{Gives}
use Rattle.landmark_prep.proofs.Jobbing.{jobs_for-even, jobs_within, labels_from_rows}
use Rattle.landmark_prep.proofs.spreading.spread_all.Goals as goal

pub run_jobs-requires-clause-nodes : goal.run_jobs-requires-clause-nodes
run_jobs-requires-clause-nodes g c κs within = rw c.in_ok-jobs.ensures (jobs_within (g.V.RoadView.network c.args.out.now).nodes c.args.landmarks.now c.requires.nodes)

pub pair_up-requires : goal.pair_up-requires
pair_up-requires g c =
    let long = AllZip-long (Gives (g.V.RoadView.network c.args.out.now) c.args.grain) c.in_ok-jobs.jobs.items c.in_ok-rows.rows.items c.in_ok-rows.ensures in
    omega (arith, jobs_for-even c.args.landmarks.now, ap length c.in_ok-jobs.ensures)

pub returns : goal.returns
returns g c =
    IfOk-weaker c.pair_up.result _ _
    (λ table same. labels_from_rows (g.V.RoadView.network c.args.out.now) c.args.grain c.args.landmarks.now table c.in_ok-rows.rows.items c.in_ok-jobs.jobs.items same c.in_ok-jobs.ensures c.in_ok-rows.ensures)
    c.pair_up.ensures
