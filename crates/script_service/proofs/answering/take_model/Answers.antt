use Rattle.script_service.proofs.CommandFollows.{model_follows}
use Rattle.script_service.proofs.answering.take_model.Goals as goal

pub returns : goal.returns
returns g c =
    model_follows g.J.Naming.land _ _ c.args.memory.now _ c.args.line.now c.args.profile c.args.text.now c.in_ok-reply.reply _
    c.requires.is c.in_ok-reply.ensures.reply c.in_ok-reply.ensures.rule c.len.ensures c.reply_of_model.ensures
