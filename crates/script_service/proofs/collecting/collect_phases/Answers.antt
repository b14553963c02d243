use Rattle.std.proofs.Common.{subst, sym, List, arith}
use Rattle.script_service.specs.declared.actor.Heard.{Heard}
use Rattle.script_service.specs.Collecting.{HasCollected}
use Rattle.script_service.proofs.ToldReplies.{collected_more, collected_none, ready_handed}
use Rattle.script_service.proofs.collecting.collect_phases.Goals as goal

pub loop-place-init : goal.loop-place-init
loop-place-init g c =
    let none = collected_none g.J.Naming.land c.args.script.now c.args.service.now.entries c.args.actors.now c.requires.nothing c.requires.none in
    record {
      ready = c.requires.ready;
      collected = subst (λ (heard : List Heard). HasCollected g.J.Naming.land c.args.script.now c.args.service.now.entries c.args.actors.now 0 heard) (sym c.new-heard.ensures.items) none;
    }

pub loop-place-preserved : goal.loop-place-preserved
loop-place-preserved g c =
    let inv = c.loop-place.invariant in
    let told = c.in_ok-run_phase.ensures in
    let handed = c.in_ok-hand_over.ensures in
    record {
      ready = ready_handed c.args.script.now _ _ _ _ told.ready handed.actors;
      collected = collected_more g.J.Naming.land c.args.script.now c.loop-place.place c.loop-place.service c.run_phase.new.service c.loop-place.actors c.run_phase.new.actors _ _ _
          inv.collected inv.ready (omega arith) told handed.actors handed.heard;
    }
