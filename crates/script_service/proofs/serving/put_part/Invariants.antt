use Rattle.std.proofs.Common.{◌≡◌, ◌++◌, map, take}
use Rattle.script_service.specs.Writing.{lines_text}
use Rattle.script_service.specs.Actors.{heard_in}
use Rattle.script_service.proofs.serving.put_part.Given as goal

abbrev pub invariant-loop-heard : goal.invariant-loop-heard
invariant-loop-heard l = l.out ≡ l.fn.out ++ lines_text l.names (map (heard_in l.phase) (take l.heard-index l.part))
