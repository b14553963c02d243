use Rattle.std.proofs.Common.{◌<◌, ◌∙◌, length, sym}
use Rattle.script_service.proofs.CommandFollows.{publish_follows, nothing_follows}
use Rattle.script_service.proofs.answering.publish.Goals as goal

pub returns-in_default-clause-follows : goal.returns-in_default-clause-follows
returns-in_default-clause-follows g c =
    let there : c.args.profile < length g.J.Naming.land.profiles = rw c.requires.is at c.requires.command in
    nothing_follows g.J.Naming.land _ _ c.args.memory.now c.args.line.now c.args.profile _
    c.requires.is there (sym c.held.ensures.is ∙ c.in_default.is) c.len.ensures

pub returns-clause-follows : goal.returns-clause-follows
returns-clause-follows g c =
    let there : c.args.profile < length g.J.Naming.land.profiles = rw c.requires.is at c.requires.command in
    let ensures = c.in_ok-reply.ensures in
    publish_follows g.J.Naming.land c.args.seat.now c.publish.new.self c.args.memory.now _ c.args.line.now c.args.profile c.in-Some.prep c.in_ok-reply.reply _
    c.requires.is c.requires.own ensures.cells there c.held.ensures.each (sym c.held.ensures.is ∙ c.in-Some.is) ensures.ok c.leave.ensures c.told_of_publish.ensures
