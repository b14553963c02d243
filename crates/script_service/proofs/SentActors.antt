-- An actor crosses threads: its seat, its memory and what it was told do.
use denote.Param.Send.{sendable, IsSend, IsSync, view_send}
use denote.Param.SendFields.{declared_send}
use denote.Ref.{NamedLft}
use denote.RattleType.{RattleType}
use Rattle.std.proofs.Crossing.{crosses}
use Rattle.traffic_core.specs.contracts.ground.Ground.{the_row as ground}
use Rattle.traffic_share.specs.declared.sealed.Naming as naming
use Rattle.traffic_share.specs.contracts.seat.Seat.{the_row as seat}
use Rattle.traffic_share.proofs.SentSeats.{seat_sent}
use Rattle.traffic_share.proofs.sealed.TruePrep.TheSendSync.{the_send as prep_sent}
use Rattle.route_sessions.specs.contracts.session.Session.{the_row as session}
use Rattle.script_service.proofs.actor.Heard.TheSendSync.{the_send as heard_sent}
use Rattle.script_service.specs.contracts.actor.Actor.{the_row as actor}
use Rattle.script_service.specs.contracts.actor.Actor.TheInside as actor_of
use Rattle.script_service.specs.contracts.memory.Memory.{the_row as memory}
use Rattle.script_service.specs.contracts.memory.Memory.TheInside as memory_of

module _ (T : RattleType) (n : naming.Ghosts T.Denot) where
  memory_fields : IsSend session → IsSend (memory_of.the_row T n)
  memory_fields s = declared_send (memory_of.the_type T n) (s, (search (sendable, crosses, prep_sent) depth 30, tt))

  memory_sent : IsSend (memory_of.the_row T n) → IsSend (memory T n)
  memory_sent s = view_send _ _ _ _ _ s

  module _ (ℓ κ : NamedLft) where
    actor_fields : IsSend (seat ℓ κ T n) → IsSend (memory T n) → IsSend (actor_of.the_row ℓ κ T n)
    actor_fields s m = declared_send (actor_of.the_type ℓ κ T n) (s, (m, (search (sendable, crosses, heard_sent) depth 30, (search sendable, tt))))

    fields_sent : IsSend (actor_of.the_row ℓ κ T n) → IsSend (actor ℓ κ T n)
    fields_sent s = view_send _ _ _ _ _ s

    pub actor_sent : IsSync ground → IsSend session → IsSend (actor ℓ κ T n)
    actor_sent shared s =
        fields_sent (actor_fields (seat_sent T n ℓ κ shared) (memory_sent (memory_fields s)))
