use denote.Param.{param}
use denote.Param.Send.{IsSend, sendable}
use denote.Ref.{NamedLft}
use Rattle.script_service.specs.contracts.actor.Actor.{the_row as actor}
use Rattle.script_service.proofs.SentActors.{actor_sent}
use Rattle.script_service.proofs.threads.run_all.Goals as goal

pub for_each_mut-requires-send-T : goal.for_each_mut-requires-send-T
for_each_mut-requires-send-T g c κs within =
    let sent : (ℓ κ : NamedLft) → IsSend (actor ℓ κ (param 0 g.row.J) g.J.Naming) = λ ℓ κ. actor_sent (param 0 g.row.J) g.J.Naming ℓ κ c.ground_is_shared.ensures c.session_is_sent.ensures in
    search (sendable, sent) depth 20
