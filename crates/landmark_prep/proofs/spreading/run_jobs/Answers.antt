use Rattle.std.proofs.Common.{◌<◌, sym, arith}
use Rattle.std.specs.Prelude.{vec_len}
use Rattle.std.proofs.lemmas.Bool.{eqb-true}
use Rattle.std.proofs.lemmas.List.Elements.{All-take, All-drop}
use Rattle.landmark_prep.specs.declared.spreading.Job.{Job}
use Rattle.landmark_prep.specs.Jobs.{Gives}
use Rattle.landmark_prep.proofs.Jobbing.{zip_of_each, batch_more, batches_done}
use Rattle.landmark_prep.proofs.spreading.run_jobs.Goals as goal

pub batches-init : goal.batches-init
batches-init g c = record { nodes = c.requires.nodes; rows = λ rest z. rw c.new-rows.ensures.items z }

pub run_batch-requires-clause-nodes : goal.run_batch-requires-clause-nodes
run_batch-requires-clause-nodes g c κs within =
    rw c.in_ok-later.ensures.items (All-take (λ (job : Job). job.landmark.0 < (g.V.RoadView.network c.args.out.now).nodes) c.min.result c.batches.left.items c.batches.invariant.nodes)

pub batches-preserved : goal.batches-preserved
batches-preserved g c =
    let network = g.V.RoadView.network c.args.out.now in
    let first = c.split_off.new.self in
    let gave = zip_of_each (Gives network c.args.grain) first.items c.in_ok-more.more.items
    (omega (arith, c.in_ok-more.ensures.count, c.in_ok-more.more.ok.0, first.ok.0))
    (λ i d e k. c.in_ok-more.ensures.each i d e (omega (arith, first.ok.0))) in
    record {
      nodes = rw c.in_ok-later.ensures.tail (All-drop (λ (job : Job). job.landmark.0 < network.nodes) c.min.result c.batches.left.items c.batches.invariant.nodes);
      rows = batch_more (Gives network c.args.grain) c.args.jobs.items c.batches.left.items c.batches.rows.items c.batches.invariant.rows c.min.result first.items c.in_ok-later.later.items c.in_ok-more.more.items c.append.new.self.items
          c.in_ok-later.ensures.items c.in_ok-later.ensures.tail c.in_ok-append.ensures.items gave;
    }

pub returns : goal.returns
returns g c =
    batches_done (Gives (g.V.RoadView.network c.args.out.now) c.args.grain) c.args.jobs.items c.batches.left.items c.batches.rows.items c.batches.invariant.rows
    (omega (arith, eqb-true (vec_len c.batches.left) 0 (sym c.batches-test.ensures), c.batches.left.ok.0))
