use Rattle.std.proofs.Common.{arith}
use Rattle.traffic_share.proofs.ListsThatBegin.{of_one}
use Rattle.traffic_share.proofs.seat.Seat.meet.Goals as goal

pub returns-clause-one : goal.returns-clause-one
returns-clause-one g c = of_one _ _ (λ k d a b. c.loop-place.invariant.one k d (grind arith))
