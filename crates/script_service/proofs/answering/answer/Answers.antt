use Rattle.std.proofs.Common.{ℕ, refl}
use Rattle.traffic_core.specs.Trips.{along}
use Rattle.script_service.specs.SeatReplies.{told_of_lower, told_of_restore}
use Rattle.script_service.proofs.SeatRows.{lower_said, lower_told, restore_said, restore_told, seat_after, seat_stays}
use Rattle.script_service.proofs.CommandFollows.{route_answered, told_follows}
use Rattle.script_service.proofs.answering.answer.Goals as goal

pub returns-in-Model-clause-after : goal.returns-in-Model-clause-after
returns-in-Model-clause-after g c = seat_stays _ _ c.requires.more

pub returns-in-Route-clause-after : goal.returns-in-Route-clause-after
returns-in-Route-clause-after g c = seat_stays _ _ c.requires.more

pub returns-in-Route-clause-follows : goal.returns-in-Route-clause-follows
returns-in-Route-clause-follows g c =
    route_answered g.J.Naming.land _ _ c.args.memory.now _ c.args.line.now _ _ _ _
    c.in-Route.is c.session.ensures.rule c.ask_route.ensures.at c.ask_route.ensures.right

pub returns-in_ok-reply-in-Lower : goal.returns-in_ok-reply-in-Lower
returns-in_ok-reply-in-Lower g c =
    let before = c.args.seat.now in
    let after = c.lower.new.self in
    let line = c.args.line.now in
    let by = along (record { 0 = c.in-Lower.edge }) c.in-Lower.reverse in
    let reply = c.in_ok-reply-in-Lower.reply in
    let row = lower_told g.J.Naming.land before after line by c.in-Lower.speed reply c.requires.own c.lower.ensures.cells c.in_ok-reply-in-Lower.ensures.ok in
    record {
      after = seat_after line.number before after c.lower.ensures.cells c.lower.ensures.actor c.lower.ensures.last row.speaks.starts;
      follows = told_follows g.J.Naming.land before after c.args.memory.now line _ (lower_said g.J.Naming.land before after line by c.in-Lower.speed)
          (λ (len : ℕ). told_of_lower len reply) _ _ c.in-Lower.is refl (λ p. refl) (λ says own. says) row c.len.ensures c.told_of_lower.ensures;
    }

pub returns-in_ok-reply-in-Restore : goal.returns-in_ok-reply-in-Restore
returns-in_ok-reply-in-Restore g c =
    let before = c.args.seat.now in
    let after = c.restore.new.self in
    let line = c.args.line.now in
    let by = along (record { 0 = c.in-Restore.edge }) c.in-Restore.reverse in
    let reply = c.in_ok-reply-in-Restore.reply in
    let row = restore_told g.J.Naming.land before after line by c.in-Restore.speed reply c.requires.own c.restore.ensures.cells c.in_ok-reply-in-Restore.ensures.ok in
    record {
      after = seat_after line.number before after c.restore.ensures.cells c.restore.ensures.actor c.restore.ensures.last row.speaks.starts;
      follows = told_follows g.J.Naming.land before after c.args.memory.now line _ (restore_said g.J.Naming.land before after line by c.in-Restore.speed)
          (λ (len : ℕ). told_of_restore len reply) _ _ c.in-Restore.is refl (λ p. refl) (λ says own. says) row c.len-in-Restore.ensures c.told_of_restore.ensures;
    }

pub returns-in-Prepare-clause-after : goal.returns-in-Prepare-clause-after
returns-in-Prepare-clause-after g c = seat_stays _ _ c.requires.more
