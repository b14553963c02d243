use Rattle.std.proofs.Common.{◌≡◌, ◌∙◌, ◌<◌, ◌+◌, length, arith}
use Rattle.script_service.specs.Actors.{accepted_by}
use Rattle.script_service.proofs.CommandMore.{starts_len}
use Rattle.script_service.proofs.PhaseReady.{asked_now, phase_is, ready_here}
use Rattle.script_service.proofs.PhaseRun.{phase_run}
use Rattle.script_service.proofs.threads.run_phase.Goals as goal

pub run_all-requires-clause-awaits : goal.run_all-requires-clause-awaits
run_all-requires-clause-awaits g c κs within =
    let here = phase_is c.args.script.now.phases c.args.place _ c.as_slice-phase.result.now c.get.ensures c.as_slice-phase.ensures in
    ready_here _ c.args.script.now c.args.place c.as_slice-phase.result.now c.args.service.now c.args.actors.now c.requires.script c.requires.there here c.requires.ready

pub run_all-requires-clause-asked : goal.run_all-requires-clause-asked
run_all-requires-clause-asked g c κs within =
    let here = phase_is c.args.script.now.phases c.args.place _ c.as_slice-phase.result.now c.get.ensures c.as_slice-phase.ensures in
    asked_now _ c.args.script.now c.args.place _ c.as_slice-phase.result.now c.requires.script c.requires.there here c.len-names.ensures

pub gather-requires-clause-cells : goal.gather-requires-clause-cells
gather-requires-clause-cells g c κs within i d here =
    let began : i < length c.args.actors.now = omega (arith, c.run_all.ensures.len) in
    (c.run_all.ensures.run i d began).still.cells ∙ (c.requires.ready.seated i d began).cells

pub returns : goal.returns
returns g c =
    let here = phase_is c.args.script.now.phases c.args.place _ c.as_slice-phase.result.now c.get.ensures c.as_slice-phase.ensures in
    let gathered = c.gather.ensures in
    let told = c.have_accepted.ensures in
    let counted = told.count c.if-not-have_accepted.false in
    let now = c.len.ensures in
    let was = c.len-before.ensures in
    let grew = starts_len _ _ gathered.longer in
    let count : length c.gather.new.service.entries ≡ length c.args.service.now.entries + accepted_by c.gather.new.actors = omega arith in
    phase_run g.J.Naming.land c.args.script.now c.args.place c.as_slice-phase.result.now c.args.service.now c.gather.new.service c.args.actors.now c.run_all.new.actors c.gather.new.actors
    c.requires.script c.requires.there here c.requires.ready (record {
      seated = c.requires.ready.seated;
      ran_len = c.run_all.ensures.len;
      run = c.run_all.ensures.run;
      same = gathered.same;
      starts = gathered.longer;
      len = gathered.len;
      taught = gathered.each;
      done = told.done c.if-not-have_accepted.false;
      count = count;
    }) c.list_fits.ensures
