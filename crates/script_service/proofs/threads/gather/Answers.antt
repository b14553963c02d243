use Rattle.std.proofs.Common.{◌<◌, length, arith, ap}
use Rattle.script_service.proofs.SeatsBack.{actor_at}
use Rattle.script_service.proofs.threads.gather.Goals as goal

pub returns-clause-each : goal.returns-clause-each
returns-clause-each g c i d began =
    let lens = ap length c.collect.ensures.actors in
    let collected : i < length c.collect.new.actors = omega arith in
    let same = actor_at c.collect.new.actors c.args.actors.now i d d c.collect.ensures.actors began in
    rw c.share.ensures.service (rw same at (c.share.ensures.each i d collected))
