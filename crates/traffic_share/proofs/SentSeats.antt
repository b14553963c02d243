-- A seat crosses threads: what it keeps does.
use denote.Param.Send.{sendable, IsSend, IsSync, view_send}
use denote.Param.SendFields.{declared_send}
use denote.Ref.{NamedLft}
use denote.RattleType.{RattleType}
use Rattle.std.proofs.Crossing.{crosses}
use Rattle.std.proofs.alloc.Global.TheSendSync.{the_send as heap_sent}
use Rattle.once_cell.proofs.race.note.Note.TheSendSync.{the_send as note_sent}
use Rattle.traffic_core.specs.contracts.ground.Ground.{the_row as ground}
use Rattle.traffic_core.specs.contracts.state.RoadState.{the_row as state}
use Rattle.traffic_core.proofs.rows.ChangedLimits.TheSendSync.{the_send as changed_sent}
use Rattle.traffic_core.proofs.entry.Entry.TheSendSync.{the_sync as entry_shared}
use Rattle.traffic_share.specs.declared.sealed.Naming as naming
use Rattle.traffic_share.specs.contracts.replay.Found.{the_row as found}
use Rattle.traffic_share.specs.contracts.replay.Replay.{the_row as replay}
use Rattle.traffic_share.specs.contracts.replay.Replay.TheInside as replay_of
use Rattle.traffic_share.specs.contracts.seat.Seat.{the_row as seat}
use Rattle.traffic_share.specs.contracts.seat.Seat.TheInside as seat_of
use Rattle.traffic_share.specs.contracts.log.Log.{the_row as log}
use Rattle.traffic_share.proofs.log.Log.TheSendSync.{the_sync as log_shared}

state_sent : IsSync ground → (ℓ : NamedLft) → IsSend (state ℓ)
state_sent shared ℓ = search (sendable, crosses, shared, changed_sent) depth 40

found_sent : (ℓ : NamedLft) → IsSend (found ℓ)
found_sent ℓ = search (sendable, crosses, entry_shared) depth 30

module _ (T : RattleType) (n : naming.Ghosts T.Denot) (ℓ κ : NamedLft) where
  replay_fields : IsSend (found ℓ) → IsSend (state κ) → IsSend (replay_of.the_row ℓ κ T n)
  replay_fields f s = declared_send (replay_of.the_type ℓ κ T n) (f, (s, (search sendable, tt)))

  replay_sent : IsSend (replay_of.the_row ℓ κ T n) → IsSend (replay ℓ κ T n)
  replay_sent s = view_send _ _ _ _ _ s

  seat_fields : IsSync (log T n) → IsSend (replay ℓ κ T n) → IsSend (seat_of.the_row ℓ κ T n)
  seat_fields l r =
      declared_send (seat_of.the_type ℓ κ T n)
      (search (sendable, l), (heap_sent, (search sendable, (search sendable, (r, (search (sendable, crosses, note_sent) depth 30, tt))))))

  row_sent : IsSend (seat_of.the_row ℓ κ T n) → IsSend (seat ℓ κ T n)
  row_sent s = view_send _ _ _ _ _ s

  pub seat_sent : IsSync ground → IsSend (seat ℓ κ T n)
  seat_sent shared = row_sent (seat_fields (log_shared T n) (replay_sent (replay_fields (found_sent ℓ) (state_sent shared κ))))
