use Rattle.script_service.proofs.PhaseServed.{nothing_begun}
use Rattle.script_service.proofs.serving.serve_over.Goals as goal

pub returns-in_err-log-clause-part : goal.returns-in_err-log-clause-part
returns-in_err-log-clause-part g c = λ fault. nothing_begun g.J.Naming.land c.args.script.now (g.K.Sink.held c.args.out.now)
