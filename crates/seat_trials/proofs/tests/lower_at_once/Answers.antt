use denote.Param.{param}
use denote.Param.Send.{IsSend, sendable}
use denote.Ref.{NamedLft}
use Rattle.traffic_share.specs.contracts.seat.Seat.{the_row as seat}
use Rattle.traffic_share.proofs.SentSeats.{seat_sent}
use Rattle.seat_trials.proofs.tests.lower_at_once.Goals as goal

pub for_each_mut-requires-send-T : goal.for_each_mut-requires-send-T
for_each_mut-requires-send-T g c κs within =
    let sent : (ℓ κ : NamedLft) → IsSend (seat ℓ κ (param 0 g.row.J) g.J.Naming) = λ ℓ κ. seat_sent (param 0 g.row.J) g.J.Naming ℓ κ c.ground_is_shared.ensures in
    search (sendable, sent) depth 20
