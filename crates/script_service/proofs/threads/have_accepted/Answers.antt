use Rattle.std.proofs.Common.{◌≡◌, ◌∙◌, false, ap, sym, arith}
use Rattle.std.proofs.lemmas.List.Elements.{All-more}
use Rattle.script_service.specs.Actors.{Acting, accepted_of}
use Rattle.script_service.proofs.AcceptedCount.{accepted_more}
use Rattle.script_service.proofs.threads.have_accepted.Goals as goal

pub loop-actor-preserved : goal.loop-actor-preserved
loop-actor-preserved g c =
    let actors = c.args.actors.now in
    let here = c.loop-actor-test.true in
    let item = c.actor-item.result in
    let is = c.actor-item.is in
    let more = accepted_more actors c.loop-actor.actor-index item here in
    let same = ap (λ (a : Acting). accepted_of a.part) is in
    let told = c.accepted.ensures in
    let before = c.loop-actor.invariant.count in
    record {
      count = omega (arith, c.in-Some.ensures);
      done = All-more (λ (a : Acting). a.failed ≡ false) actors c.loop-actor.actor-index item here c.loop-actor.invariant.done (ap (λ (a : Acting). a.failed) (sym is) ∙ sym c.has_failed.ensures ∙ c.if-has_failed.false);
    }
