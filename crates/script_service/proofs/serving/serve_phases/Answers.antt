use Rattle.std.proofs.Common.{◌∙◌, arith}
use Rattle.script_service.proofs.PhaseServed.{front_more, rose_later, underway_more, underway_none}
use Rattle.script_service.proofs.serving.serve_phases.Goals as goal

pub loop-place-init : goal.loop-place-init
loop-place-init g c =
    record {
      ready = c.requires.ready;
      underway = underway_none g.J.Naming.land c.args.script.now c.args.service.now.entries c.args.actors.now (g.K.Sink.held c.args.out.now) c.requires.nothing c.requires.none;
      later = omega arith;
    }

pub loop-place-preserved : goal.loop-place-preserved
loop-place-preserved g c =
    let inv = c.loop-place.invariant in
    let told = c.in_ok-run_phase.ensures in
    record {
      ready = told.ready;
      underway = underway_more g.J.Naming.land c.args.script.now c.loop-place.place c.loop-place.service c.run_phase.new.service c.loop-place.actors c.run_phase.new.actors inv.ready (omega arith) told _ _ _
          inv.underway c.as_bytes.result.now (c.as_bytes.ensures ∙ c.in_ok-text.ensures) c.in_ok-give_all.ensures.ok;
      later = omega (arith, inv.later, c.in_ok-give_all.ensures.cause.later);
    }

pub returns-in_err-give_all-clause-front : goal.returns-in_err-give_all-clause-front
returns-in_err-give_all-clause-front g c =
    let inv = c.loop-place.invariant in
    let told = c.in_ok-run_phase.ensures in
    λ fault. (
      front_more g.J.Naming.land c.args.script.now c.loop-place.place c.loop-place.service c.run_phase.new.service c.loop-place.actors c.run_phase.new.actors inv.ready (omega arith) told _ _ _
          inv.underway c.as_bytes.result.now (c.as_bytes.ensures ∙ c.in_ok-text.ensures) c.in_err-give_all.ensures.err,
      rose_later _ _ _ inv.later c.in_err-give_all.ensures.cause.failed,
    )
