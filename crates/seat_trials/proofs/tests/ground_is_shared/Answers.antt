use denote.Param.Send.{given_sync}
use Rattle.seat_trials.proofs.tests.ground_is_shared.Lts.{arg-0-0}
use Rattle.seat_trials.proofs.tests.ground_is_shared.Goals as goal

pub returns : goal.returns
returns c = let shared = given_sync 0 (arg-0-0 c.is_shared.lifetimes) c.is_shared.ensures in record { shared = shared.shared }
