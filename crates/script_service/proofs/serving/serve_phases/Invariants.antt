use Rattle.std.proofs.Common.{◌≤◌}
use Rattle.script_service.specs.Underway.{AreReady, IsUnderway}
use Rattle.script_service.proofs.serving.serve_phases.Given as goal

abbrev pub invariant-loop-place : goal.invariant-loop-place
invariant-loop-place g l = record {
  ready : AreReady l.script l.place l.service l.actors;
  underway : IsUnderway g.J.Naming.land l.script l.service.entries l.actors l.place (g.K.Sink.held l.fn.out) (g.K.Sink.held l.out);
  later : g.K.Sink.faults l.fn.out ≤ g.K.Sink.faults l.out;
}
