use Rattle.script_service.specs.Collecting.{HasCollected}
use Rattle.script_service.specs.Underway.{AreReady}
use Rattle.script_service.proofs.collecting.collect_phases.Given as goal

abbrev pub invariant-loop-place : goal.invariant-loop-place
invariant-loop-place g l = record {
  ready : AreReady l.script l.place l.service l.actors;
  collected : HasCollected g.J.Naming.land l.script l.service.entries l.actors l.place l.heard.items;
}
