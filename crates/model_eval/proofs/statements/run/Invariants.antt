use Rattle.std.proofs.Common.{◌≡◌, drop}
use Rattle.model_eval.specs.Running as spec
use Rattle.model_eval.proofs.Blocks.{pass}
use Rattle.model_eval.proofs.statements.run.Given as goal

abbrev pub invariant-loop-s : goal.invariant-loop-s
invariant-loop-s l =
    pass l.running l.taken (drop l.s-index l.statements) l.values l.areas l.x ≡ spec.run l.running l.statements l.values l.areas l.start
