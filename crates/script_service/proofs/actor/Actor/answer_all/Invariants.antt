use Rattle.script_service.specs.Actors.{HasRunFirst, IsStill}
use Rattle.script_service.proofs.actor.Actor.answer_all.Given as goal

abbrev pub invariant-loop-place : goal.invariant-loop-place
invariant-loop-place g l = record {
  still : IsStill l.phase l.fn.self l.self;
  first : HasRunFirst g.J.Naming.land l.phase l.place l.fn.self l.self;
}
