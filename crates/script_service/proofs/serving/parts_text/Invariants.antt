use Rattle.std.proofs.Common.{◌≡◌, take}
use Rattle.script_service.specs.Writing.{lines_text}
use Rattle.script_service.specs.Actors.{parts_in}
use Rattle.script_service.proofs.serving.parts_text.Given as goal

abbrev pub invariant-loop-actor : goal.invariant-loop-actor
invariant-loop-actor g l = l.text ≡ lines_text l.names (parts_in l.phase (take l.actor-index l.actors))
