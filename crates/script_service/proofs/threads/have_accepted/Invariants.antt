use Rattle.std.proofs.Common.{◌≡◌, ◌+◌, false, All, take}
use Rattle.script_service.specs.Actors.{Acting, accepted_by}
use Rattle.script_service.proofs.threads.have_accepted.Given as goal

abbrev pub invariant-loop-actor : goal.invariant-loop-actor
invariant-loop-actor g l = record {
  count : l.left + accepted_by (take l.actor-index l.actors) ≡ l.count;
  done : All (λ (a : Acting). a.failed ≡ false) (take l.actor-index l.actors);
}
